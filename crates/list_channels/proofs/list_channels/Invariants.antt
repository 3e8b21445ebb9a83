use Rattle.listing.specs.Growing.{Listing}
use Rattle.answers.specs.Differences.{channel_entries}
use Rattle.reading.specs.Steps.{channels_left}
use Rattle.list_channels.proofs.Channels.{Abreast}
use Prim.Native.Nat.{◌+◌}
use Rattle.list_channels.proofs.list_channels.Given as goal

abbrev pub invariant-loop-u : goal.invariant-loop-u
invariant-loop-u l =
    Abreast l.u-iterator l.d × Listing (channel_entries l.group (l.initial.x.index + 1) (channels_left l.initial.x) (channels_left l.fn.y)) l.initial.list l.list (channel_entries l.group (l.u-iterator.index + 1) (channels_left l.u-iterator) (channels_left l.d))
