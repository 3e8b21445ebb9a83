-- A channel as it is written: its block, then its bodies.
-- Assumes nothing.
use Rattle.std.specs.Prelude.{ℕ, ◌+◌, ◌≤◌, ◌<◌, ◌≡◌, List, ◌++◌}
use Rattle.answers.specs.Readings.{target, cc_kind, ce_kind, tx_kind}
use Rattle.answers.specs.Readings.{Channel as ReadChannel}
use Rattle.answers.specs.Copies.{link_to, body_length, body_bytes}
use Rattle.blocks.specs.Blocks.{cn_bytes}
use Rattle.reading.specs.Bodies.{BodySmall, BodyIs}
use Rattle.put_channels.specs.declared.Bodies.{Bodies}
use Rattle.put_channels.specs.declared.Places.{Places}
use Rattle.put_channels.specs.declared.Sum.{Sum}
use Rattle.put_channels.specs.Written.{written_length, written_bytes}

-- the bodies of a channel
pub record BodiesAre (b : Bodies) (c : ReadChannel) : Type 0 where
  pub conversion : BodyIs b.conversion c.conversion
  pub extension : BodyIs b.extension c.extension
  pub comment : BodyIs b.comment c.comment
  pub long : BodyIs b.long c.long_name
  pub display : BodyIs b.display c.display_name

pub record SmallBodies (b : Bodies) : Type 0 where
  pub conversion : BodySmall b.conversion
  pub extension : BodySmall b.extension
  pub comment : BodySmall b.comment
  pub long : BodySmall b.long
  pub display : BodySmall b.display

-- where they stand behind a block at a place
pub record PlacesAre (at : ℕ) (b : Bodies) (p : Places) : Type 0 where
  pub cc : p.cc ≡ at + 228
  pub ce : p.ce ≡ p.cc + written_length b.conversion
  pub tx : p.tx ≡ p.ce + written_length b.extension
  pub long : p.long ≡ p.tx + written_length b.comment
  pub display : p.display ≡ p.long + written_length b.long
  pub end : p.end ≡ p.display + written_length b.display
  pub near : p.end < at + 400000

unfoldable pub bodies_bytes : Bodies → List ℕ
bodies_bytes b =
    (((written_bytes 67 67 b.conversion ++ written_bytes 67 69 b.extension) ++ written_bytes 84 88 b.comment) ++ written_bytes 84 88 b.long) ++ written_bytes 84 88 b.display

-- the block at a place, with the link to the next one as a number
unfoldable pub block_as : ℕ → ℕ → ReadChannel → List ℕ
block_as at next c =
    cn_bytes next
    (target (link_to (at + 228) c.conversion))
    (target (link_to (at + 228 + body_length c.conversion) c.extension))
    (target (link_to (at + 228 + body_length c.conversion + body_length c.extension) c.comment))
    c.fields.main
    (target (link_to (at + 228 + body_length c.conversion + body_length c.extension + body_length c.comment) c.long_name))
    (target (link_to (at + 228 + body_length c.conversion + body_length c.extension + body_length c.comment + body_length c.long_name) c.display_name))
    c.fields.added

unfoldable pub channel_as : ℕ → ℕ → ReadChannel → List ℕ
channel_as at next c =
    block_as at next c ++ ((((body_bytes cc_kind c.conversion ++ body_bytes ce_kind c.extension) ++ body_bytes tx_kind c.comment) ++ body_bytes tx_kind c.long_name) ++ body_bytes tx_kind c.display_name)

-- a length that is added up as far as it is needed: exact up to the longest copy
pub record Capped (r n : ℕ) : Type 0 where
  pub exact : n ≤ 2147483647 → r ≡ n
  pub over : 2147483647 < n → 2147483647 < r

pub record SumIs (s : Sum) (n k : ℕ) : Type 0 where
  pub length : Capped s.length n
  pub count : n ≤ 2147483647 → s.count ≡ k
  pub near : s.length < 4294967296
