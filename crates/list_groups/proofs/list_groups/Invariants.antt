use Rattle.listing.specs.Growing.{Listing}
use Rattle.answers.specs.Differences.{groups_entries}
use Rattle.reading.specs.Steps.{groups_left}
use Rattle.list_groups.proofs.Laws.{Ahead}
use lib.ListN.{length}
use mathlib.Core.Path.{◌≡◌}
use Rattle.list_groups.proofs.list_groups.Given as goal

abbrev pub invariant-loop-c : goal.invariant-loop-c
invariant-loop-c l =
    (l.c.index ≡ l.d.index) × Ahead l.c l.d l.told × Listing (groups_entries l.initial.c.index (groups_left l.initial.c) (groups_left l.initial.d)) l.initial.list l.list (groups_entries l.c.index (groups_left l.c) (groups_left l.d))

abbrev pub decreases-loop-c : goal.decreases-loop-c
decreases-loop-c l = length (groups_left l.c)
