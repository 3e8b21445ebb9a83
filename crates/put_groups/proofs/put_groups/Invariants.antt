use Rattle.answers.specs.Copies.{groups_length}
use Rattle.reading.specs.Steps.{groups_left}
use Rattle.put_groups.proofs.Groups.{Copying}
use Prim.Native.Nat.{◌+◌, ◌≤◌}
use lib.ListN.{length}
use mathlib.Core.Path.{◌≡◌}
use Rattle.put_groups.proofs.put_groups.Given as goal

abbrev pub invariant-loop-g : goal.invariant-loop-g
invariant-loop-g l =
    (length l.out ≡ length l.initial.out)
    × (l.to + groups_length (groups_left l.c) ≡ l.at + groups_length (groups_left l.initial.c))
    × (groups_length (groups_left l.c) ≤ 2147483647)
    × Copying l.initial.c l.c l.at l.to l.places l.initial.out l.out

abbrev pub decreases-loop-g : goal.decreases-loop-g
decreases-loop-g l = length (groups_left l.c)
