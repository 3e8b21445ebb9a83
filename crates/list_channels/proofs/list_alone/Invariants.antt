use Rattle.listing.specs.Growing.{Listing}
use Rattle.answers.specs.Differences.{alone}
use Rattle.reading.specs.Steps.{channels_left}
use Prim.Native.Nat.{◌+◌}
use Rattle.list_channels.proofs.list_alone.Given as goal

abbrev pub invariant-loop-x : goal.invariant-loop-x
invariant-loop-x l =
    Listing (alone 3 l.group (l.initial.channels.index + 1) (channels_left l.initial.channels)) l.initial.list l.list (alone 3 l.group (l.x-iterator.index + 1) (channels_left l.x-iterator))
