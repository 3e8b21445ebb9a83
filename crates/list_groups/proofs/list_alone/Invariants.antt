use Rattle.listing.specs.Growing.{Listing}
use Rattle.answers.specs.Differences.{groups_alone}
use Rattle.reading.specs.Steps.{groups_left}
use Rattle.list_groups.proofs.list_alone.Given as goal

abbrev pub invariant-loop-g : goal.invariant-loop-g
invariant-loop-g l =
    Listing (groups_alone l.initial.groups.index (groups_left l.initial.groups)) l.initial.list l.list (groups_alone l.g-iterator.index (groups_left l.g-iterator))
