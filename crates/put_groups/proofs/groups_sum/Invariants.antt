use Rattle.answers.specs.Copies.{groups_length}
use Rattle.reading.specs.Steps.{groups_left}
use Prim.Native.Nat.{◌+◌, ◌≤◌}
use lib.ListN.{length}
use mathlib.Core.Path.{◌≡◌}
use Rattle.put_groups.proofs.groups_sum.Given as goal

abbrev pub invariant-loop-g : goal.invariant-loop-g
invariant-loop-g l = (l.sum.length ≤ 2147483647) × (l.sum.count ≤ l.sum.length) × (l.sum.length + groups_length (groups_left l.g-iterator) ≡ l.fn.start + groups_length (groups_left l.fn.groups)) × (l.sum.count + length (groups_left l.g-iterator) ≡ length (groups_left l.fn.groups))
