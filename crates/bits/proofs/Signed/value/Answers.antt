use Prim.Native.Nat.{◌+◌, ◌-◌, ◌^◌}
use mathlib.Core.Path.{◌≡◌, refl, ap, ◌∙◌}
use native.Mathlib.Omega.{arith}
use native.Mathlib.Nat.{lt_of_le_of_lt}
use lib.Signed.{shr_z, mag_shr}
use Rattle.bits.proofs.Signs.{kept, spread}
use Rattle.bits.proofs.Signed.value.Goals as goal

pub returns : goal.returns
returns c =
    let x = c.args.self in
    let s = c.cast_signed in
    let u = 64 - x.width in
    let fits = c.args.self.fits in
    let e : x.width + u ≡ 64 = omega (arith, fits.1) in
    let l = lt_of_le_of_lt (mag_shr s.result (2 ^ u)) s.type_inv in
    rw (kept s.result s.type_inv refl) (kept _ l (ap (λ z. shr_z z (2 ^ u)) s.ensures ∙ spread x.width x.bits u fits.0 e fits.2))
