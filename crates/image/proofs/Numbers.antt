-- Laws of numbers of bytes, over the width.
-- Assumes nothing.
use Prim.Native.Nat.{ℕ, zero, suc, ◌+◌, ◌-◌, ◌^◌, ◌≤◌, ◌<◌, min}
use mathlib.Core.Path.{◌≡◌, refl, ap, ◌∙◌}
use mathlib.Core.List.{List, [], ◌∷◌, ◌++◌, map, reverse}
use native.Mathlib.Omega.{arith}
use native.Mathlib.Nat.{pow-suc, lt_of_lt_of_le, pow-le-pow_right}
use lib.Dec.{lit<}
use lib.ListN.{length, take, drop, length-drop, drop_of_length-le}
use lib.Seq.{take-nil}
use Rattle.spec.specs.Bytes.{number}
use Rattle.std.proofs.Common.{Bor, take_all}
use Rattle.std.proofs.lemmas.List.{length-append, length-reverse, length-map, length-take, take_min}
use Rattle.std.specs.List.{slice_range}
use Rattle.image.specs.Spans.{number_at}

-- the bytes that were read from the last on, in the list's order
abbrev pub read_back : List (Bor ℕ) → List ℕ
read_back ys = reverse (map (λ (x : Bor ℕ). x.now) ys)

-- as many bytes are left and read as there are
pub read_count : (left xs : List ℕ) (ys : List (Bor ℕ)) → left ++ read_back ys ≡ xs → length left + length ys ≡ length xs
read_count left xs ys e =
    let m : length (read_back ys) ≡ length ys = rw (length-reverse, length-map) refl in
    let l = length-append left (read_back ys) in
    rw (← e, l, m) refl

-- once none is left
pub read_whole : (left xs : List ℕ) (ys : List (Bor ℕ)) → length left ≡ 0 → left ++ read_back ys ≡ xs → number (read_back ys) ≡ number xs
read_whole [] xs ys z e = ap number e
read_whole (x ∷ left) xs ys z e = absurd (omega arith)

-- as long as a byte is left, the number has room for it
pub read_room : (left more xs : List ℕ) (x : ℕ) (ys : List (Bor ℕ)) (v : ℕ) → left ≡ more ++ x ∷ []
    → left ++ read_back ys ≡ xs → length xs ≤ 8 → v < 256 ^ length ys → v < 256 ^ 7
read_room left more xs x ys v s e h l =
    let p : length left ≡ length more + 1 = rw s (length-append more (x ∷ [])) in
    let f = read_count left xs ys e in
    lt_of_lt_of_le l (pow-le-pow_right (lit< tt) {i = length ys} {j = 7} (omega arith))

-- the same of the n bytes of an image from a place on, as far as they are there
pub read_fits : (left image : List ℕ) (ys : List (Bor ℕ)) (at n : ℕ) → left ++ read_back ys ≡ take n (drop at image) → length left + length ys ≤ n
read_fits left image ys at n e =
    let f = read_count left (take n (drop at image)) ys e in
    let l = length-take n (drop at image) in
    omega (arith, f, l)

pub all_read : (left image : List ℕ) (ys : List (Bor ℕ)) (at n : ℕ) → length left ≡ 0 → left ++ read_back ys ≡ take n (drop at image) → number (read_back ys) ≡ number_at image at n
unfolding number_at
all_read left image ys at n z e = read_whole left (take n (drop at image)) ys z e

pub read_small : (left more image : List ℕ) (x : ℕ) (ys : List (Bor ℕ)) (at n v : ℕ) → left ≡ more ++ x ∷ []
    → left ++ read_back ys ≡ take n (drop at image) → n ≤ 8 → v < 256 ^ length ys → v < 256 ^ 7
read_small left more image x ys at n v s e h l =
    let m = length-take n (drop at image) in
    read_room left more (take n (drop at image)) x ys v s e (omega (arith, m)) l

pub width_most : (n k v : ℕ) → k ≤ n → v < 256 ^ k → v < 256 ^ n
width_most n k v h l = lt_of_lt_of_le l (pow-le-pow_right (lit< tt) {i = k} {j = n} h)

-- past the end
pub number_past : (image : List ℕ) (at n : ℕ) → length image ≤ at → number_at image at n ≡ 0
unfolding number_at
number_past image at n h = rw (drop_of_length-le image h, take-nil n)

pub width_pos : (n : ℕ) → 0 < 256 ^ n
width_pos zero = omega arith
width_pos (suc n) = let p = width_pos n in rw pow-suc (omega arith)

-- of n bytes from a place on, by those that are there
number_part : (image : List ℕ) (at n v : ℕ) {part : List ℕ} → part ≡ take n (drop at image) → v ≡ number part → v < 256 ^ length part → (v ≡ number_at image at n) × (v < 256 ^ n)
unfolding number_at
number_part image at n v {part} e is small =
    let l : length part ≤ n = rw (e, length-take) (omega arith) in
    (is ∙ ap number e, width_most n (length part) v l small)

-- as far as they are there
module _ (image rest : List ℕ) (at n v : ℕ) {m : ℕ} (r : rest ≡ slice_range image at (length image)) (c : m ≡ min n (length rest)) where
  cut_is : take m rest ≡ take n (drop at image)
  cut_is =
      let e : rest ≡ drop at image = r ∙ take_all (length image - at) (drop at image) (rw length-drop (omega arith)) in
      ap (λ k. take k rest) c ∙ take_min n rest ∙ ap (take n) e

  pub number_cut : v ≡ number (take m rest) → v < 256 ^ length (take m rest) → (v ≡ number_at image at n) × (v < 256 ^ n)
  number_cut is small = number_part image at n v cut_is is small

-- and where all are there
pub number_held : (image : List ℕ) (at n v : ℕ) {part : List ℕ} → part ≡ slice_range image at (at + n) → at + n ≤ length image
    → v ≡ number part → v < 256 ^ length part → (v ≡ number_at image at n) × (v < 256 ^ n)
number_held image at n v {part} p h is small =
    let m : at + n - at ≡ n = omega arith in
    number_part image at n v (p ∙ ap (λ k. take k (drop at image)) m) is small
