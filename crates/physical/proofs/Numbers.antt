-- The number of a sample: 16 where it has none.
-- Assumes nothing.
use Prim.Native.Nat.{ℕ}
use mathlib.Core.Path.{◌≡◌, refl, ◌∙◌, ap}
use lib.IntN.{pos, nat_abs}
use lib.Ieee.{Float, binary64, of_bits, of_int}
use Rattle.std.specs.Prelude.{Bool, true, false, Option, Some, None, leb}
use Rattle.std.specs.Bool.{then_some}
use Rattle.answers.specs.Readings.{Answer, refused, accepted}
use Rattle.answers.specs.Samples.{unsigned, signed, double, signed_of, exact, number_of}
use Rattle.answers.proofs.Laws.{refuses, admits}
use Rattle.physical.specs.Values.{held, FiniteIs}

-- what is kept where a test passes
held_is : (t : Bool) (x : Float) {a : Answer Float} → (t ≡ true → accepted x ≡ a) → (t ≡ false → refused 16 0 ≡ a) → held (then_some t x) ≡ a
held_is true x passes fails = passes refl
held_is false x passes fails = fails refl

module _ {x : Float} {r : Option Float} where
  pub unsigned_number : (n : ℕ) → x ≡ of_int binary64 (pos n) → r ≡ then_some (leb n exact) x → held r ≡ number_of (unsigned n)
  unfolding number_of
  unsigned_number n e h = rw h (held_is _ x (λ t. admits _ _ _ _ t (ap accepted e)) (refuses _ _ _ _))

  pub signed_number : (bits n : ℕ) → x ≡ of_int binary64 (signed_of bits n) → r ≡ then_some (leb (nat_abs (signed_of bits n)) exact) x → held r ≡ number_of (signed bits n)
  unfolding number_of
  signed_number bits n e h = rw h (held_is _ x (λ t. admits _ _ _ _ t (ap accepted e)) (refuses _ _ _ _))

module _ (n : ℕ) {x : Float} (e : x ≡ of_bits binary64 n) where
  pub double_number : (r : Option Float) → FiniteIs x r → held r ≡ number_of (double n)
  unfolding number_of
  double_number None h = refuses _ _ _ _ (rw (← e) h)
  double_number (Some y) h = admits _ _ _ _ (rw (← e, ← h.1) h.0) (ap accepted (h.1 ∙ e))
