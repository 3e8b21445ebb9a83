-- What a copy answers in each case, and what it leaves in the output.
-- Assumes nothing.
use Prim.Native.Nat.{ℕ, ◌≤◌}
use mathlib.Core.Path.{◌≡◌, refl, sym, ◌∙◌, ap}
use mathlib.Core.List.{List, ◌++◌}
use lib.ListN.{length, drop}
use native.Mathlib.Omega.{arith}
use Rattle.refusal.specs.Refused.{fitting}
use Rattle.refusal.proofs.Fitting.{both_tests, as_needed, within}
use Rattle.put_channels.specs.Channels.{Capped}
use Rattle.put_channels.proofs.Sums.{capped_exact}
use Rattle.answers.specs.Readings.{Reading, WellFormed, refused, accepted}
use Rattle.answers.specs.Copies.{copy_length, canonical_copy}
use Rattle.answers.specs.Outcomes.{Outcome, CopyOutcome, outcome_of, copied, copying, copy_outcome}
use Rattle.answers.proofs.Laws.{step, stop, length_canonical}
use Rattle.write.specs.Write.{Wrote, wrote_whole}
use Rattle.reading.specs.Promise.{reads}

copy_left : {o o₁ : List ℕ} (r : Reading) → WellFormed r → copy_length r ≤ length o → Wrote o o₁ 0 (canonical_copy r) → o₁ ≡ canonical_copy r ++ drop (copy_length r) o
copy_left {o} r ok h w =
    let e : length (canonical_copy r) ≡ copy_length r = length_canonical r ok in
    wrote_whole w (omega (arith, e)) ∙ ap (λ m. canonical_copy r ++ drop m o) e

module _ (image out : List ℕ) where
  abbrev Answers : Outcome ℕ → List ℕ → Type 0
  Answers given memory = (given ≡ (copy_outcome image out).given) × (memory ≡ (copy_outcome image out).memory)

  answers : {given : Outcome ℕ} {memory : List ℕ} → copy_outcome image out ≡ record { given = given; memory = memory } → Answers given memory
  answers o = (sym (ap (λ (x : CopyOutcome). x.given) o), sym (ap (λ (x : CopyOutcome). x.memory) o))

  pub copy_refused : {k p : ℕ} → reads image ≡ refused k p → Answers (outcome_of (refused k p)) out
  unfolding copy_outcome copying
  copy_refused e = answers (ap (λ m. copied m out) (stop _ e))

  -- an accepted image, with the length of its copy as far as it is needed
  module _ (r : Reading) (e : reads image ≡ accepted r) (n : ℕ) (c : Capped n (copy_length r)) where
    fitting_as : fitting n (length out) ≡ fitting (copy_length r) (length out)
    fitting_as = as_needed n (copy_length r) (length out) c.exact c.over

    pub copy_unfit : {k p : ℕ} → fitting n (length out) ≡ refused k p → Answers (outcome_of (refused k p)) out
    unfolding copy_outcome copying
    copy_unfit h =
        answers (ap (λ m. copied m out) (step _ e (both_tests (copy_length r) (length out) (accepted r) ∙ stop _ (sym fitting_as ∙ h))))

    pub copy_made : {o : List ℕ} → WellFormed r → fitting n (length out) ≡ accepted tt → Wrote out o 0 (canonical_copy r) → Answers (outcome_of (accepted n)) o
    unfolding copy_outcome copying
    copy_made ok h w =
        let l = within n (length out) h in
        let k = capped_exact c l.0 in
        let a = answers (ap (λ m. copied m out) (step _ e (both_tests (copy_length r) (length out) (accepted r) ∙ step _ (sym fitting_as ∙ h) refl))) in
        (ap (λ m. outcome_of (accepted m)) k ∙ a.0, copy_left r ok (omega (arith, k, l.1)) w ∙ a.1)
