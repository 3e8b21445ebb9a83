-- The function of the program in each case, and what is written of its output.
-- Assumes nothing.
use Prim.Native.Nat.{ℕ, ◌≤◌, ◌<◌}
use mathlib.Core.Path.{◌≡◌, refl, sym, ◌∙◌, ap}
use mathlib.Core.List.{List, ◌++◌}
use lib.ListN.{length, drop, length-append}
use borrow.Author.Tests.{le-leb, lt-leb}
use native.Mathlib.Omega.{arith}
use Rattle.answers.specs.Readings.{Bytes, refused, accepted}
use Rattle.answers.specs.Outcomes.{Outcome, outcome_of, copied, copy_outcome, programming, program_outcome, line, program_output}
use Rattle.answers.proofs.Laws.{step, pass, stop, fail, program_writes_the_copy, program_writes_the_refusal}
use Rattle.write.specs.Write.{Wrote, wrote_whole}

module _ (image out : List ℕ) where
  pub program_refused : 32768 < length image → program_outcome image out ≡ record { given = outcome_of (refused 1 0); memory = out }
  unfolding program_outcome programming
  program_refused h = ap (λ m. copied m out) (stop _ (fail _ _ _ (lt-leb _ _ h)))

  pub program_copies : length image ≤ 32768 → program_outcome image out ≡ copy_outcome image out
  unfolding program_outcome programming copy_outcome
  program_copies h = ap (λ m. copied m out) (step _ (pass _ _ _ (le-leb _ _ h)) refl)

-- ---- what is written, and what the output then holds behind it

module _ (image out : List ℕ) (l : length out ≡ 32768) where
  pub copy_written : (n : ℕ) {o : List ℕ} → Bytes image → outcome_of (accepted n) ≡ (program_outcome image out).given → o ≡ (program_outcome image out).memory
      → length o ≡ 32768
      → (o ≡ program_output image ++ drop n out) × (n ≡ length (program_output image)) × (n ≤ 32768)
  copy_written n {o} bytes e m q =
      let w = program_writes_the_copy image out n bytes l (sym (ap (λ (x : Outcome ℕ). x.value) e)) in
      let i = m ∙ w.0 in
      (i, w.1, omega (arith, w.1, q, ap length i ∙ length-append (program_output image) (drop n out)))

  pub line_written : (n p k : ℕ) {o o₁ : List ℕ} → outcome_of (refused n p) ≡ (program_outcome image out).given → o ≡ (program_outcome image out).memory → length o ≡ 32768
      → Wrote o o₁ 0 (line n p) → k ≡ length (line n p) → k ≤ 42
      → (o₁ ≡ program_output image ++ drop k out) × (k ≡ length (program_output image)) × (k ≤ 32768)
  line_written n p k {o} {o₁} e m q w i h =
      let r = program_writes_the_refusal image out l (sym (ap (λ (x : Outcome ℕ). x.value) e)) in
      let s : line n p ≡ program_output image = ap (λ (x : Outcome ℕ). line x.number x.place) e ∙ sym r.1 in
      let room : length (line n p) ≤ length o = omega (arith, q, i, h) in
      let was : o ≡ out = m ∙ r.0 in
      (wrote_whole w room ∙ ap (λ x. x ++ drop (length (line n p)) o) s ∙ rw (i, was) refl, i ∙ ap length s, omega (arith, h))
