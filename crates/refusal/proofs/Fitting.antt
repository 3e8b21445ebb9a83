-- Whether what is to be written fits, by cases, and as two tests of the definitions.
-- Assumes nothing.
use Prim.Native.Nat.{ℕ, ◌≤◌, ◌<◌}
use mathlib.Core.Path.{◌≡◌, refl, sym, ap, ◌∙◌}
use mathlib.Core.Bool.{Bool, true, false}
use lib.Dec.{leb}
use borrow.Author.Tests.{leb-true, leb-false, le-leb, lt-leb}
use Rattle.spec.specs.Answer.{Answer, refused, accepted, ◌>>=◌, require}
use Rattle.spec.specs.Walk.{most}
use Rattle.spec.proofs.Answers.{step, pass, stop, fail, not_both}
use Rattle.refusal.specs.Refused.{fitting}

by_test : {P : Type 0} (m n : ℕ) → (m ≤ n → P) → (n < m → P) → P
by_test {P} m n f g = go (leb m n) refl
  where
    go : (t : Bool) → leb m n ≡ t → P
    go true e = f (leb-true m n e)
    go false e = g (leb-false m n e)

module _ (n room : ℕ) where
  pub too_long : 2147483647 < n → fitting n room ≡ refused 12 0
  unfolding fitting
  too_long h = stop _ (fail _ _ _ (lt-leb n 2147483647 h))

  pub no_room : n ≤ 2147483647 → room < n → fitting n room ≡ refused 13 n
  unfolding fitting
  no_room h r = step _ (pass _ _ _ (le-leb n 2147483647 h)) (fail _ _ _ (lt-leb n room r))

  pub fit : n ≤ 2147483647 → n ≤ room → fitting n room ≡ accepted tt
  unfolding fitting
  fit h r = step _ (pass _ _ _ (le-leb n 2147483647 h)) (pass _ _ _ (le-leb n room r))

  -- what fits is within both bounds
  pub within : fitting n room ≡ accepted tt → (n ≤ 2147483647) × (n ≤ room)
  within e =
      by_test n 2147483647
      (λ h. by_test n room (λ r. (h, r)) (λ r. absurd (not_both e (no_room h r))))
      (λ h. absurd (not_both e (too_long h)))

  -- the two tests one after the other, as a call's answer has them
  pub both_tests : {A : Type 0} (a : Answer A) → (require (leb n most) 12 0 >>= λ x. require (leb n room) 13 n >>= λ y. a) ≡ (fitting n room >>= λ x. a)
  unfolding fitting ◌>>=◌
  both_tests {A} a = go (require (leb n most) 12 0)
    where
      go : (m : Answer (Unit {0})) → (m >>= λ x. require (leb n room) 13 n >>= λ y. a) ≡ ((m >>= λ x. require (leb n room) 13 n) >>= λ x. a)
      go (refused k p) = refl
      go (accepted x) = refl

-- a length that is exact as far as it is needed fits where the length itself does
pub as_needed : (m n room : ℕ) → (n ≤ 2147483647 → m ≡ n) → (2147483647 < n → 2147483647 < m) → fitting m room ≡ fitting n room
as_needed m n room exact over =
    by_test n 2147483647 (λ h. ap (λ k. fitting k room) (exact h)) (λ h. too_long m room (over h) ∙ sym (too_long n room h))
