use Prim.Native.Nat.{◌+◌, ◌-◌}
use mathlib.Core.Path.{◌≡◌}
use native.Mathlib.Omega.{arith}
use Rattle.bits.proofs.Numbers.{masked}
use Rattle.bits.proofs.kept.Goals as goal

pub returns : goal.returns
returns c =
    let a = c.args in
    let e : a.bits + (64 - a.bits) ≡ 64 = omega arith in
    masked a.bits (64 - a.bits) a.v e
