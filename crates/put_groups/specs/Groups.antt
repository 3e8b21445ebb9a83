-- A group as it is written: a DG block and a CG block, its comment, its channels, its records.
-- Assumes nothing.
use Rattle.std.specs.Prelude.{ℕ, ◌+◌, List, ◌++◌, length}
use Rattle.answers.specs.Readings.{join, target, tx_kind}
use Rattle.answers.specs.Readings.{Group as ReadGroup}
use Rattle.answers.specs.Copies.{link_to, link_to_first, body_length, body_bytes, channels_length, channels_bytes}
use Rattle.blocks.specs.Blocks.{dg_bytes, cg_bytes}
use Rattle.reading.specs.declared.Group.{Group}
use Rattle.reading.specs.Steps.{the_group}
use Rattle.put_channels.specs.declared.Sum.{Sum}
use Rattle.put_channels.specs.Channels.{SumIs}

-- the DG block at a place with the link to the next one, and the CG block behind it
unfoldable pub heads_as : ℕ → ℕ → ReadGroup → List ℕ
heads_as at next g =
    dg_bytes next (at + 28) (target (link_to_first (at + 58 + body_length g.comment + channels_length g.channels) g.records))
    ++ cg_bytes (target (link_to_first (at + 58 + body_length g.comment) g.channels)) (target (link_to (at + 58) g.comment)) (length g.channels) g.record_size (length g.records)

-- all of a group but its records
unfoldable pub blocks_as : ℕ → ℕ → ReadGroup → List ℕ
blocks_as at next g =
    (heads_as at next g ++ body_bytes tx_kind g.comment) ++ channels_bytes (at + 58 + body_length g.comment) g.channels

unfoldable pub group_as : ℕ → ℕ → ReadGroup → List ℕ
group_as at next g = blocks_as at next g ++ join g.records

-- the length of a group's channels, and how many they are
abbrev pub ChannelsSum : Group → Sum → Type 0
ChannelsSum g sum = SumIs sum (channels_length (the_group g).channels) (length (the_group g).channels)
