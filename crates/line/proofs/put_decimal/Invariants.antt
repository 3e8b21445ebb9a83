use mathlib.Core.Path.{◌≡◌}
use Prim.Native.Nat.{◌^◌, ◌≤◌, ◌<◌}
use lib.ListN.{length, drop}
use Rattle.spec.specs.Call.{digits}
use Rattle.line.specs.Line.{shown}
use Rattle.line.proofs.put_decimal.Given as goal

abbrev pub invariant-loop-left : goal.invariant-loop-left
invariant-loop-left l =
    (0 < l.k) × (l.k ≤ 20) × (length l.text ≡ 20) × (l.left < 10 ^ l.k) × (digits l.k l.left (drop l.k l.text) ≡ shown l.n)

abbrev pub decreases-loop-left : goal.decreases-loop-left
decreases-loop-left l = l.k
