-- Lists from an index on, and answers that are known.
-- Assumes nothing.
use Prim.Native.Nat.{ℕ, zero, suc, ◌+◌, ◌<◌}
use mathlib.Core.Path.{◌≡◌, refl}
use mathlib.Core.List.{List, [], ◌∷◌, map}
use native.Mathlib.Omega.{arith}
use native.Mathlib.Numerals.{add-one}
use lib.ListN.{length, drop}
use Rattle.spec.specs.Bytes.{All}
use Rattle.spec.specs.Answer.{Answer, accepted, ◌>>=◌}
use Rattle.spec.proofs.Answers.{Gives}
pub use Rattle.spec.proofs.Answers.{not_both}

-- ---- lists

drop_suc : {A : Type 0} (k : ℕ) (xs : List A) {x : A} {ys : List A} → drop k xs ≡ x ∷ ys → drop (suc k) xs ≡ ys
drop_suc zero [] e = let z : ◌≡◌ {A = ℕ} 0 1 = cc in absurd (omega arith)
drop_suc zero (y ∷ xs) e = cc
drop_suc (suc k) [] e = let z : ◌≡◌ {A = ℕ} 0 1 = cc in absurd (omega arith)
drop_suc (suc k) (y ∷ xs) e = drop_suc k xs e

pub drop_next : {A : Type 0} (k : ℕ) (xs : List A) {x : A} {ys : List A} → drop k xs ≡ x ∷ ys → drop (k + 1) xs ≡ ys
drop_next k xs e = rw (add-one k) (drop_suc k xs e)

pub index_below : {A : Type 0} (k : ℕ) (xs : List A) {x : A} {ys : List A} → drop k xs ≡ x ∷ ys → k < length xs
index_below zero [] e = let z : ◌≡◌ {A = ℕ} 0 1 = cc in absurd (omega arith)
index_below zero (y ∷ xs) e = omega arith
index_below (suc k) [] e = let z : ◌≡◌ {A = ℕ} 0 1 = cc in absurd (omega arith)
index_below (suc k) (y ∷ xs) e = let h = index_below k xs e in omega arith

pub drop_map : {A B : Type 0} (f : A → B) (k : ℕ) (xs : List A) → drop k (map f xs) ≡ map f (drop k xs)
drop_map f zero xs = refl
drop_map f (suc k) [] = refl
drop_map f (suc k) (x ∷ xs) = drop_map f k xs

pub all_drop : {A : Type 0} (P : A → Type 0) (k : ℕ) (xs : List A) → All P xs → All P (drop k xs)
all_drop P zero xs h = h
all_drop P (suc k) [] h = h
all_drop P (suc k) (x ∷ xs) h = all_drop P k xs h.1

-- ---- answers

pub self : {A : Type 0} (m : Answer A) → Gives m (λ a. m ≡ accepted a)
self m = record { given = λ a e. e }

pub gives_step : {A B : Type 0} {m : Answer A} {a : A} (f : A → Answer B) {Q : B → Type 0} → m ≡ accepted a → Gives (f a) Q → Gives (m >>= f) Q
unfolding ◌>>=◌
gives_step f e g = rw e g
