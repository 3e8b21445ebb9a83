-- The table of slots that the walk over channel groups fills.
-- Assumes nothing.
use Prim.Native.Nat.{ℕ, ◌+◌, ◌<◌}
use mathlib.Core.Path.{◌≡◌, refl, sym, ◌∙◌, ap}
use mathlib.Core.Bool.{Bool, true, false, not, ◌||◌}
use mathlib.Core.List.{List, [], ◌∷◌, ◌++◌, map-append}
use native.Mathlib.Omega.{arith}
use native.Mathlib.Numerals.{add-one}
use lib.Dec.{eqb}
use lib.ListN.{length, take, set}
use lib.Seq.{take-suc-set}
use borrow.Author.Tests.{ne_eqb}
use Rattle.spec.specs.Block.{Image}
use Rattle.spec.specs.Records.{Slot}
use Rattle.spec.specs.Walk.{elem, is_empty, group_allowed}
use Rattle.std.specs.List.{list_any}
use Rattle.records.specs.declared.Slot as code
use Rattle.records.specs.Slots.{slot_seen, slots_of}
use Rattle.walk.specs.Lists.{ids_of, groups_from}

-- ---- one slot more

module _ (ss : List code.Slot) (t : length ss ≡ 1024) (n : ℕ) (h : n < 1024) (s : code.Slot) where
  first_more : take (n + 1) (set ss n s) ≡ take n ss ++ (s ∷ [])
  first_more = rw (add-one n) (take-suc-set ss n s (omega (arith, t)))

  pub slots_noted : slots_of (take (n + 1) (set ss n s)) ≡ slots_of (take n ss) ++ (slot_seen s ∷ [])
  slots_noted = ap slots_of first_more ∙ map-append slot_seen (take n ss) (s ∷ [])

  pub ids_noted : ids_of (take (n + 1) (set ss n s)) ≡ ids_of (take n ss) ++ (s.id ∷ [])
  ids_noted = ap ids_of first_more ∙ map-append (λ (x : code.Slot). x.id) (take n ss) (s ∷ [])

-- ---- used IDs

elem_last : (x y : ℕ) (xs : List ℕ) → elem x (xs ++ (y ∷ [])) ≡ eqb x y || elem x xs
elem_last x y [] = refl
elem_last x y (z ∷ xs) = ap (λ t. eqb x z || t) (elem_last x y xs) ∙ swap (eqb x z) (eqb x y) (elem x xs)
  where
    swap : (a b c : Bool) → a || (b || c) ≡ b || (a || c)
    swap true true c = refl
    swap true false c = refl
    swap false b c = refl

-- the search for an ID
pub elem_any : (x : ℕ) (ss : List code.Slot) → list_any (λ (s : code.Slot). eqb x s.id) ss ≡ elem x (ids_of ss)
elem_any x [] = refl
elem_any x (s ∷ ss) = ap (λ t. eqb x s.id || t) (elem_any x ss)

-- the walk over groups under way: n of this data group are in the table
pub record Listing (image : Image) (mode field link g m : ℕ) (ss : List code.Slot) (n field' link' g' m' : ℕ) : Type 0 where
  pub used : List ℕ
  pub agrees : groups_from image mode [] [] field link g m ≡ groups_from image mode (slots_of (take n ss)) used field' link' g' m'
  pub uses : (x : ℕ) → elem x used ≡ elem x (ids_of (take n ss))
  pub first : is_empty used ≡ eqb n 0

pub listing_starts : (image : Image) (mode field link g m : ℕ) (ss : List code.Slot) (n : ℕ) → n ≡ 0 → Listing image mode field link g m ss n field link g m
listing_starts image mode field link g m ss n e = rw e (record { used = []; agrees = refl; uses = λ x. refl; first = refl })

-- the same at equal numbers
pub listing_as : {image : Image} {mode field link g m : ℕ} {ss : List code.Slot} {n f l h k n' f' l' h' : ℕ} → Listing image mode field link g m ss n f l h k
    → n ≡ n' → f ≡ f' → l ≡ l' → h ≡ h' → Listing image mode field link g m ss n' f' l' h' k
listing_as w a b c d = rw (a, b, c, d) at w

module _ {image : Image} {mode field link g m : ℕ} {ss : List code.Slot} {n field' link' g' m' : ℕ} (w : Listing image mode field link g m ss n field' link' g' m') where
  pub allowed_is : group_allowed mode w.used ≡ not (eqb mode 0) || eqb n 0
  allowed_is = ap (λ t. not (eqb mode 0) || t) w.first

  pub listing_goes : (t : length ss ≡ 1024) → n < 1024 → (s : code.Slot) {s' : Slot} {field'' link'' m'' : ℕ} → slot_seen s ≡ s'
      → groups_from image mode (slots_of (take n ss)) w.used field' link' g' m'
      ≡ groups_from image mode (slots_of (take n ss) ++ (s' ∷ [])) (s'.record_id ∷ w.used) field'' link'' (g' + 1) m''
      → Listing image mode field link g m (set ss n s) (n + 1) field'' link'' (g' + 1) m''
  listing_goes t h s {s'} {field''} {link''} {m''} i e =
      let e' = rw (← i) at e in
      record {
        used = s.id ∷ w.used;
        agrees = w.agrees ∙ e' ∙ ap (λ x. groups_from image mode x (s.id ∷ w.used) field'' link'' (g' + 1) m'') (sym (slots_noted ss t n h s));
        uses = λ k. ap (λ t. eqb k s.id || t) (w.uses k) ∙ sym (elem_last k s.id (ids_of (take n ss))) ∙ ap (elem k) (sym (ids_noted ss t n h s));
        first = sym (ne_eqb (n + 1) 0 (λ z. omega arith));
      }
