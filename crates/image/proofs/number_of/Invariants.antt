use Rattle.std.specs.Prelude.{◌++◌, length}
use Rattle.spec.specs.Bytes.{number}
use Rattle.image.proofs.Numbers.{read_back}
use mathlib.Core.Path.{◌≡◌}
use Prim.Native.Nat.{◌^◌, ◌<◌}
use Rattle.image.proofs.number_of.Given as goal

abbrev pub invariant-loop-x : goal.invariant-loop-x
invariant-loop-x l =
    (l.x-iterator.iter.rest.now ++ read_back l.yielded ≡ l.bytes)
    × (l.v ≡ number (read_back l.yielded))
    × (l.v < 256 ^ length l.yielded)
