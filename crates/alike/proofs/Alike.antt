-- Two lists of bytes, side by side: where they first differ, and whether they are the same with zeros behind them.
-- Assumes nothing.
use Prim.Native.Nat.{ℕ, zero, suc, ◌+◌, ◌-◌, ◌≤◌, min}
use mathlib.Core.Path.{◌≡◌, refl, sym, ◌∙◌, ap}
use mathlib.Core.Bool.{Bool, true, false, cond, ◌&&◌}
use mathlib.Core.List.{List, [], ◌∷◌, ◌++◌, append-nil}
use native.Mathlib.Omega.{arith}
use lib.Dec.{eqb}
use lib.ListN.{length, take, drop, replicate, length-append, length-replicate}
use borrow.Author.Tests.{ne_eqb}
use Rattle.std.specs.Prelude.{not}
use Rattle.std.specs.List.{zip, position_or_len, position, list_all}
use Rattle.std.specs.Option.{unwrap_or}
use Rattle.std.specs.Str.{bytes_eq}
use Rattle.std.specs.Cmp.Lexicographic.{unequal}
use Rattle.std.proofs.lemmas.List.Sums.{prefix_len-le-length}
use Rattle.std.proofs.lemmas.Slice.Zip.{length-zip}
use Rattle.std.proofs.lemmas.Bool.Decides.{nat_tests}
use Rattle.answers.specs.Differences.{same_bytes, difference}
use Rattle.write.specs.Write.{filled}

-- ---- the first difference

abbrev pub differ : ℕ × ℕ → Bool
differ p = not (eqb p.0 p.1)

first_differing : (xs ys : List ℕ) → difference xs ys ≡ position_or_len differ (zip xs ys)
first_differing [] ys = refl
first_differing (x ∷ xs) [] = refl
first_differing (x ∷ xs) (y ∷ ys) = go (eqb x y) (first_differing xs ys)
  where
    go : (t : Bool) → difference xs ys ≡ position_or_len differ (zip xs ys) → cond t (suc (difference xs ys)) 0 ≡ cond (not (not t)) (1 + position_or_len differ (zip xs ys)) 0
    go true e = omega arith
    go false e = refl

-- where none differs, all pairs are passed
or_length : {X : Type 0} (p : X → Bool) (xs : List X) (n : ℕ) → length xs ≡ n → unwrap_or (position p xs) n ≡ position_or_len p xs
or_length p xs n e = grind (arith, nat_tests, prefix_len-le-length (λ x. not (p x)) xs)

pub found_or_length : (xs ys : List ℕ) → unwrap_or (position differ (zip xs ys)) (min (length xs) (length ys)) ≡ difference xs ys
found_or_length xs ys = or_length differ (zip xs ys) _ (length-zip xs ys) ∙ sym (first_differing xs ys)

-- ---- the same bytes, with zeros behind them

same_is : (xs ys : List ℕ) → same_bytes xs ys ≡ bytes_eq xs ys
same_is [] [] = refl
same_is [] (y ∷ ys) = refl
same_is (x ∷ xs) [] = refl
same_is (x ∷ xs) (y ∷ ys) = ap (λ t. eqb x y && t) (same_is xs ys)

pub other_lengths : (xs ys : List ℕ) → (length xs ≡ length ys → ⊥) → same_bytes xs ys ≡ false
other_lengths xs ys d = same_is xs ys ∙ unequal eqb xs ys d

abbrev pub is_zero : ℕ → Bool
is_zero b = eqb b 0

-- the same for as long as both are, and no more than zeros in what one has beyond the other
abbrev pub same_beyond : List ℕ → List ℕ → ℕ → Bool
same_beyond xs ys both = bytes_eq (take both xs) (take both ys) && list_all is_zero (drop both xs ++ drop both ys)

and_assoc : (s t u : Bool) → s && (t && u) ≡ (s && t) && u
and_assoc true t u = refl
and_assoc false t u = refl

zeros_same : (k : ℕ) → same_bytes (replicate k 0) (replicate k 0) ≡ true
zeros_same zero = refl
zeros_same (suc k) = zeros_same k

-- zeros beside a list
zeros_beside : (ys : List ℕ) (k l : ℕ) → k ≡ length ys + l → (same_bytes (replicate k 0) (ys ++ replicate l 0) ≡ list_all is_zero ys) × (same_bytes (ys ++ replicate l 0) (replicate k 0) ≡ list_all is_zero ys)
zeros_beside [] k l e = let f : k ≡ l = omega arith in rw f (zeros_same l, zeros_same l)
zeros_beside (y ∷ ys) k l e =
    let f : k ≡ suc (length ys + l) = omega arith in
    let h = zeros_beside ys (length ys + l) l refl in
    rw f (head y h)
  where
    head : (y : ℕ) → (same_bytes (replicate (length ys + l) 0) (ys ++ replicate l 0) ≡ list_all is_zero ys) × (same_bytes (ys ++ replicate l 0) (replicate (length ys + l) 0) ≡ list_all is_zero ys)
        → (eqb 0 y && same_bytes (replicate (length ys + l) 0) (ys ++ replicate l 0) ≡ eqb y 0 && list_all is_zero ys) × (eqb y 0 && same_bytes (ys ++ replicate l 0) (replicate (length ys + l) 0) ≡ eqb y 0 && list_all is_zero ys)
    head zero h = h
    head (suc y) h =
        let e = ne_eqb 0 (suc y) (λ q. absurd (omega arith)) in
        let f = ne_eqb (suc y) 0 (λ q. absurd (omega arith)) in
        rw (e, f) (refl, refl)

pub same_with_zeros : (xs ys : List ℕ) (k l both : ℕ) → both ≡ min (length xs) (length ys) → length xs + k ≡ length ys + l
    → same_beyond xs ys both ≡ same_bytes (xs ++ replicate k 0) (ys ++ replicate l 0)
same_with_zeros [] ys k l both e h =
    let f : both ≡ 0 = omega arith in
    let g : k ≡ length ys + l = omega arith in
    rw f (sym (zeros_beside ys k l g).0)
same_with_zeros (x ∷ xs) [] k l both e h =
    let f : both ≡ 0 = omega arith in
    let g : l ≡ length (x ∷ xs) + k = omega arith in
    rw f (ap (list_all is_zero) (append-nil (x ∷ xs)) ∙ sym (zeros_beside (x ∷ xs) l k g).1)
same_with_zeros (x ∷ xs) (y ∷ ys) k l both e h =
    let f : both ≡ suc (min (length xs) (length ys)) = omega arith in
    let g : length xs + k ≡ length ys + l = omega arith in
    rw f (sym (and_assoc (eqb x y) _ _) ∙ ap (λ t. eqb x y && t) (same_with_zeros xs ys k l (min (length xs) (length ys)) refl g))

-- ---- filled

filled_length : (a : List ℕ) (n : ℕ) → length a ≤ n → length (filled a n) ≡ n
filled_length a n h = length-append a (replicate (n - length a) 0) ∙ rw length-replicate (omega arith)

module _ (a : List ℕ) (n : ℕ) (h : length a ≤ n) (b : List ℕ) (m : ℕ) (i : length b ≤ m) where
  pub other_filled : (n ≡ m → ⊥) → false ≡ same_bytes (filled a n) (filled b m)
  other_filled d =
      let x = filled_length a n h in
      let y = filled_length b m i in
      sym (other_lengths (filled a n) (filled b m) (λ e. d (sym x ∙ e ∙ y)))

  pub filled_same : (both : ℕ) → both ≡ min (length a) (length b) → n ≡ m → (same : Bool) → same ≡ bytes_eq (take both a) (take both b)
      → same && list_all is_zero (drop both a ++ drop both b) ≡ same_bytes (filled a n) (filled b m)
  filled_same both k q same is =
      ap (λ t. t && list_all is_zero (drop both a ++ drop both b)) is
      ∙ same_with_zeros a b (n - length a) (m - length b) both k (omega arith)
