-- The worked examples of answers agree with the definitions, by computation.
-- Assumes nothing.
use Prim.Native.Nat.{ℕ}
use mathlib.Core.Path.{◌≡◌, refl, sym, ap}
use mathlib.Core.List.{List}
use native.Mathlib.Omega.{arith}
use lib.Ieee.{to_bits}
use Rattle.answers.specs.Outcomes.{Outcome, compare_outcome}
use Rattle.bits.proofs.Signs.{twos_high}
use Rattle.mdf3.specs.Answers.{answer_bytes, check_answer, length_answer, compare_number, compare_answer, stored_bytes, physical_bytes}
use Rattle.mdf3.specs.Example.{AnswerExamplesAgree}

-- what compare gives back, as the answer holds it
compared : {o : Outcome ℕ} (first second out : List ℕ) → (compare_outcome first second out).given ≡ o → (compare_number first second out ≡ o.number) × (compare_answer first second out ≡ length_answer o)
unfolding compare_number compare_answer
compared first second out e = (ap (λ (o : Outcome ℕ). o.number) e, ap length_answer e)

pub answer_examples_agree : AnswerExamplesAgree
unfolding check_answer stored_bytes physical_bytes to_bits
answer_examples_agree =
    (refl, λ image e. ap (λ p. answer_bytes p 0 0 0) e, refl, refl, compared, compared, compared, refl, ap (λ v. answer_bytes 0 v 0 2) (sym (twos_high 4 8 (omega arith) (omega arith) (omega arith))), refl, refl, refl, refl, refl)
