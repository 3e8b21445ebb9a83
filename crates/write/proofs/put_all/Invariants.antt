use lib.ListN.{length, take}
use mathlib.Core.Path.{◌≡◌}
use Rattle.write.specs.Write.{Wrote}
use Rattle.write.proofs.put_all.Given as goal

abbrev pub invariant-loop-k : goal.invariant-loop-k
invariant-loop-k l = (length l.out ≡ length l.initial.out) × Wrote l.initial.out l.out l.at (take l.k l.src)
