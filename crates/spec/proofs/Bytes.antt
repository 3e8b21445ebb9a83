-- Laws of two lists of bytes: whether they are the same, and where they first differ.
-- Assumes nothing.
use Prim.Native.Nat.{ℕ, suc, ◌<◌}
use mathlib.Core.Path.{◌≡◌, refl, sym, ◌∙◌, ap}
use mathlib.Core.Bool.{Bool, true, false, cond, true≢false}
use mathlib.Core.List.{List, [], ◌∷◌}
use native.Mathlib.Omega.{arith}
use lib.Dec.{eqb}
use lib.ListN.{get_or}
use lib.Seq.{get_or-take}
use borrow.Author.Tests.{eqb-true, eqb-false, eq-eqb, ne_eqb}
use Rattle.spec.specs.Bytes.{same_bytes, difference}
use Rattle.spec.specs.Differing.{FirstDifference}
use Rattle.spec.proofs.Answers.{both}

pub eqb_turned : (x y : ℕ) → eqb x y ≡ eqb y x
eqb_turned x y = go (eqb y x) refl
  where
    go : (t : Bool) → eqb y x ≡ t → eqb x y ≡ t
    go true e = eq-eqb x y (sym (eqb-true y x e))
    go false e = ne_eqb x y (λ h. eqb-false y x e (sym h))

-- ---- the same

pub same_refl : (xs : List ℕ) → same_bytes xs xs ≡ true
same_refl [] = refl
same_refl (x ∷ xs) = rw (eq-eqb x x refl, same_refl xs)

pub same_equal : (xs ys : List ℕ) → same_bytes xs ys ≡ true → xs ≡ ys
same_equal [] [] e = refl
same_equal [] (y ∷ ys) e = absurd (true≢false (sym e))
same_equal (x ∷ xs) [] e = absurd (true≢false (sym e))
same_equal (x ∷ xs) (y ∷ ys) e =
    let h = both (eqb x y) (same_bytes xs ys) e in
    let p = eqb-true x y h.0 in
    let q = same_equal xs ys h.1 in
    cc

pub same_not : (xs ys : List ℕ) → (xs ≡ ys → ⊥) → same_bytes xs ys ≡ false
same_not xs ys d = go (same_bytes xs ys) refl
  where
    go : (t : Bool) → same_bytes xs ys ≡ t → same_bytes xs ys ≡ false
    go true e = absurd (d (same_equal xs ys e))
    go false e = e

pub same_turned : (xs ys : List ℕ) → same_bytes xs ys ≡ same_bytes ys xs
same_turned [] [] = refl
same_turned [] (y ∷ ys) = refl
same_turned (x ∷ xs) [] = refl
same_turned (x ∷ xs) (y ∷ ys) = rw (eqb_turned x y, same_turned xs ys)

-- ---- the first difference

pub difference_turned : (xs ys : List ℕ) → difference xs ys ≡ difference ys xs
difference_turned [] [] = refl
difference_turned [] (y ∷ ys) = refl
difference_turned (x ∷ xs) [] = refl
difference_turned (x ∷ xs) (y ∷ ys) = rw (eqb_turned x y, difference_turned xs ys)

pub difference_first : (xs ys : List ℕ) → FirstDifference xs ys (difference xs ys)
difference_first [] ys = record { in_first = omega arith; in_second = omega arith; before = refl; there = λ h k e. omega arith }
difference_first (x ∷ xs) [] = record { in_first = omega arith; in_second = omega arith; before = refl; there = λ h k e. omega arith }
difference_first (x ∷ xs) (y ∷ ys) = go (eqb x y) refl (difference_first xs ys)
  where
    go : (t : Bool) → eqb x y ≡ t → FirstDifference xs ys (difference xs ys) → FirstDifference (x ∷ xs) (y ∷ ys) (cond t (suc (difference xs ys)) 0)
    go true e d =
        let p = eqb-true x y e in
        let q = d.before in
        record { in_first = omega arith; in_second = omega arith; before = cc; there = λ h k. d.there (omega arith) (omega arith) }
    go false e d = record { in_first = omega arith; in_second = omega arith; before = refl; there = λ h k. eqb-false x y e }

-- no other place is the first
pub first_unique : (xs ys : List ℕ) (m n : ℕ) → FirstDifference xs ys m → FirstDifference xs ys n → m ≡ n
first_unique xs ys m n a b = omega (arith, not_below m n a b, not_below n m b a)
  where
    not_below : (m n : ℕ) → FirstDifference xs ys m → FirstDifference xs ys n → m < n → ⊥
    not_below m n a b h =
        a.there (omega (arith, b.in_first)) (omega (arith, b.in_second)) (sym (get_or-take n xs m 0 h) ∙ ap (λ l. get_or l m 0) b.before ∙ get_or-take n ys m 0 h)
