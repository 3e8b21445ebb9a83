-- What a call's outcome says of the answer for C.
-- Assumes nothing.
use Prim.Native.Nat.{ℕ}
use mathlib.Core.Path.{◌≡◌, refl, ◌∙◌, ap}
use mathlib.Core.List.{List}
use lib.Ieee.{Float}
use Rattle.std.specs.Prelude.{Result, Ok, Err, MatchResult, IsOkAnd}
use Rattle.answers.specs.Readings.{Answer, refused, accepted}
use Rattle.answers.specs.Outcomes.{Outcome, outcome_of, check_outcome, copy_outcome, compare_outcome}
use Rattle.answers.specs.Samples.{sample_outcome, physical_outcome}
use Rattle.refusal.specs.declared.Refusal.{Refusal}
use Rattle.refusal.specs.Refused.{answer_of}
use Rattle.stored.specs.declared.Stored as code
use Rattle.stored.specs.Stored.{stored_of}
use Rattle.mdf3.specs.Answers.{answer_bytes, number_given, answer_given, check_number, check_answer, length_answer, copy_number, copy_answer, compare_number, compare_answer, answered, stored_bytes, sample_number, sample_answer, physical_bytes, physical_number, physical_answer}

-- a call's outcome, as its definition tells it to C, and what it gives, mapped to bytes
module _ {A B : Type 0} (view : A → B) (bytes : B → List ℕ) (told : Outcome B → List ℕ) (is : (a : Answer B) → answered bytes (outcome_of a) ≡ told (outcome_of a)) where
  pub given : (r : Result A Refusal) (g : Result (List ℕ) Refusal) (o : Outcome B)
      → outcome_of (answer_of view r) ≡ o
      → MatchResult r (λ x. IsOkAnd g (λ b. b ≡ bytes (view x))) (λ e. g ≡ Err e)
      → (number_given g ≡ o.number) × (answer_given g ≡ told o)
  given (Ok x) (Ok b) o e h = (ap (λ (o : Outcome B). o.number) e, h ∙ is (accepted (view x)) ∙ ap told e)
  given (Ok x) (Err f) o e h = absurd h
  given (Err f) g o e h = (ap number_given h ∙ ap (λ (o : Outcome B). o.number) e, ap answer_given h ∙ is (answer_of view (Err f)) ∙ ap told e)

-- check and copy or compare tell it by its parts
pub check_told : (a : Answer (Unit {0})) → answered (λ u. answer_bytes 0 0 0 0) (outcome_of a) ≡ answer_bytes (outcome_of a).place 0 0 0
check_told (refused n p) = refl
check_told (accepted u) = refl

pub length_told : (a : Answer ℕ) → answered (λ n. answer_bytes 0 n 0 0) (outcome_of a) ≡ length_answer (outcome_of a)
length_told (refused n p) = refl
length_told (accepted n) = refl

-- ---- each call

module _ {A : Type 0} (view : A → Unit {0}) (image : List ℕ) (r : Result A Refusal) (g : Result (List ℕ) Refusal) where
  pub check_given : outcome_of (answer_of view r) ≡ check_outcome image → MatchResult r (λ x. IsOkAnd g (λ b. b ≡ answer_bytes 0 0 0 0)) (λ e. g ≡ Err e) → (number_given g ≡ check_number image) × (answer_given g ≡ check_answer image)
  unfolding check_number check_answer
  check_given e h = given view (λ u. answer_bytes 0 0 0 0) (λ o. answer_bytes o.place 0 0 0) check_told r g _ e h

module _ (r : Result ℕ Refusal) (g : Result (List ℕ) Refusal) where
  abbrev LengthGiven : Type 0
  LengthGiven = MatchResult r (λ n. IsOkAnd g (λ b. b ≡ answer_bytes 0 n 0 0)) (λ e. g ≡ Err e)

  pub copy_given : (image out : List ℕ) → outcome_of (answer_of (λ n. n) r) ≡ (copy_outcome image out).given → LengthGiven → (number_given g ≡ copy_number image out) × (answer_given g ≡ copy_answer image out)
  unfolding copy_number copy_answer
  copy_given image out e h = given (λ n. n) (λ n. answer_bytes 0 n 0 0) length_answer length_told r g _ e h

  pub compare_given : (first second out : List ℕ) → outcome_of (answer_of (λ n. n) r) ≡ (compare_outcome first second out).given → LengthGiven → (number_given g ≡ compare_number first second out) × (answer_given g ≡ compare_answer first second out)
  unfolding compare_number compare_answer
  compare_given first second out e h = given (λ n. n) (λ n. answer_bytes 0 n 0 0) length_answer length_told r g _ e h

module _ (image : List ℕ) (group channel row : ℕ) where
  pub sample_given : (r : Result code.Stored Refusal) (g : Result (List ℕ) Refusal) → outcome_of (answer_of stored_of r) ≡ sample_outcome image group channel row → MatchResult r (λ s. IsOkAnd g (λ b. b ≡ stored_bytes (stored_of s))) (λ e. g ≡ Err e) → (number_given g ≡ sample_number image group channel row) × (answer_given g ≡ sample_answer image group channel row)
  unfolding sample_number sample_answer
  sample_given r g e h = given stored_of stored_bytes (answered stored_bytes) (λ a. refl) r g _ e h

  pub physical_given : (r : Result Float Refusal) (g : Result (List ℕ) Refusal) → outcome_of (answer_of (λ x. x) r) ≡ physical_outcome image group channel row → MatchResult r (λ x. IsOkAnd g (λ b. b ≡ physical_bytes x)) (λ e. g ≡ Err e) → (number_given g ≡ physical_number image group channel row) × (answer_given g ≡ physical_answer image group channel row)
  unfolding physical_number physical_answer
  physical_given r g e h = given (λ x. x) physical_bytes (answered physical_bytes) (λ a. refl) r g _ e h
