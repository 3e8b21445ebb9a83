use mathlib.Core.Path.{◌∙◌, ap}
use lib.Ieee.{binary64, of_int}
use Rattle.bits.proofs.Signs.{kept}
use Rattle.physical.proofs.Numbers.{unsigned_number, signed_number, double_number}
use Rattle.physical.proofs.number.Goals as goal

pub returns-in-Unsigned : goal.returns-in-Unsigned
returns-in-Unsigned c = rw c.in-Unsigned.is (unsigned_number _ c.of_unsigned.ensures c.unrounded.ensures)

pub returns-in-Signed : goal.returns-in-Signed
returns-in-Signed c =
    let x = c.of_signed.ensures ∙ ap (of_int binary64) (kept _ c.value.type_inv c.value.ensures) in
    rw c.in-Signed.is (signed_number _ _ x (rw c.magnitude.ensures at c.unrounded-in-Signed.ensures))

pub returns-in-Double : goal.returns-in-Double
returns-in-Double c = rw c.in-Double.is (double_number _ c.double_of.ensures _ c.finite.ensures)
