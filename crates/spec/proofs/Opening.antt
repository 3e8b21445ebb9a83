-- The proofs of specs/Opening.antt.
-- Assumes nothing.
use Prim.Native.Nat.{ℕ, ◌+◌}
use mathlib.Core.Path.{◌≡◌, refl, ◌∙◌, ap}
use mathlib.Core.Logic.{inl, inr, ⊎_elim}
use mathlib.Core.Bool.{Bool, true, false}
use mathlib.Core.List.{List}
use lib.Dec.{leb}
use lib.ListN.{length, take, drop}
use borrow.Author.Tests.{le-leb, lt-leb}
use Rattle.spec.specs.Answer.{Answer, refused, accepted, ◌>>=◌, require, at_place}
use Rattle.spec.specs.Block.{Kind, identifier, Image, size_at, opening, open_block, open_as, body_of, body_at}
use Rattle.spec.specs.Opening.{HeadInside, Named, HeadNotInside, OtherIdentifier, SizeBelowLeast, EndBeyondImage, BlockInside, OneOfFour, NoOtherFault, FaultIsPassedOn, NothingElseIsPassedOn}
use Rattle.spec.proofs.Answers.{step, pass, stop, fail, not_both}
use Rattle.spec.proofs.Bytes.{same_refl, same_not}

-- ---- at which test it stops

pub head_not_inside : HeadNotInside
unfolding opening
head_not_inside k image p h = stop _ (fail _ _ _ (lt-leb _ _ h))

pub other_identifier : OtherIdentifier
unfolding opening
other_identifier k image p h d = step _ (pass _ _ _ (le-leb _ _ h)) (stop _ (fail _ _ _ (same_not _ _ d)))

module _ (k : Kind) (image : Image) (p : ℕ) (h : HeadInside image p) (i : Named k image p) where
  -- the two tests of the head pass
  head_passes : {m : Answer (List ℕ)}
      → (require (leb k.least (size_at image p)) 18 0 >>= λ _. require (leb (p + size_at image p) (length image.bytes)) 19 0 >>= λ _. accepted (take (size_at image p) (drop p image.bytes))) ≡ m
      → opening k image p ≡ m
  unfolding opening
  head_passes e = step _ (pass _ _ _ (le-leb _ _ h)) (step _ (pass _ _ _ (rw i (same_refl (identifier k)))) e)

pub size_below_least : SizeBelowLeast
size_below_least k image p h i l = head_passes k image p h i (stop _ (fail _ _ _ (lt-leb _ _ l)))

pub end_beyond_image : EndBeyondImage
end_beyond_image k image p h i l m = head_passes k image p h i (step _ (pass _ _ _ (le-leb _ _ l)) (stop _ (fail _ _ _ (lt-leb _ _ m))))

pub block_inside : BlockInside
block_inside k image p h i l m = head_passes k image p h i (step _ (pass _ _ _ (le-leb _ _ l)) (step _ (pass _ _ _ (le-leb _ _ m)) refl))

-- ---- these four and no others

test_or : {A : Type 0} (P : ℕ → ℕ → Type 0) (t : Bool) (number : ℕ) (m : Answer A)
    → P number 0
    → ((n q : ℕ) → m ≡ refused n q → P n q)
    → (n q : ℕ)
    → (require t number 0 >>= λ _. m) ≡ refused n q
    → P n q
unfolding ◌>>=◌ require
test_or P true number m here f n q e = f n q e
test_or P false number m here f n q e =
    let a : n ≡ number = cc in
    let b : q ≡ 0 = cc in
    rw (a, b) here

pub no_other_fault : NoOtherFault
unfolding opening
no_other_fault k image p =
    let P : ℕ → ℕ → Type 0 = λ n q. OneOfFour n × (q ≡ 0) in
    test_or P _ 5 _ (inl refl, refl)
    (test_or P _ 17 _ (inr (inl refl), refl)
    (test_or P _ 18 _ (inr (inr (inl refl)), refl)
    (test_or P _ 19 _ (inr (inr (inr refl)), refl) (λ n q e. absurd (not_both refl e)))))

-- ---- what a link gives back

module _ {A : Type 0} (k : Kind) (read : List ℕ → A) (image : Image) (link_field p : ℕ) where
  pub link_refused : {n q : ℕ} → opening k image p ≡ refused n q → open_as k read image link_field p ≡ refused n link_field
  unfolding open_block
  link_refused e = stop _ (ap (at_place link_field) e)

pub fault_is_passed_on : FaultIsPassedOn
unfolding body_at
fault_is_passed_on A k read image link_field p n q e =
    (link_refused k read image link_field p e, stop _ (link_refused k body_of image link_field p e))

-- a step that never refuses has passed the refusal on
refused_before : {A B : Type 0} (m : Answer A) (f : A → B) {n q : ℕ} → (m >>= λ x. accepted (f x)) ≡ refused n q → m ≡ refused n q
unfolding ◌>>=◌
refused_before (refused n' q') f {n} {q} e =
    let a : n' ≡ n = cc in
    let b : q' ≡ q = cc in
    rw (a, b)
refused_before (accepted x) f e = absurd (not_both refl e)

module _ (k : Kind) (image : Image) (link_field p n q : ℕ) where
  placed : open_block k image link_field p ≡ refused n q → (opening k image p ≡ refused n 0) × (q ≡ link_field)
  unfolding open_block
  placed = go (opening k image p) refl
    where
      go : (m : Answer (List ℕ)) → opening k image p ≡ m → at_place link_field m ≡ refused n q → (opening k image p ≡ refused n 0) × (q ≡ link_field)
      go (refused n' q') o e =
          let a : n' ≡ n = cc in
          let b : q ≡ link_field = cc in
          (o ∙ rw (a, (no_other_fault k image p n' q' o).1), b)
      go (accepted x) o e = absurd (not_both refl e)

pub nothing_else_is_passed_on : NothingElseIsPassedOn
unfolding body_at
nothing_else_is_passed_on A k read image link_field p n q =
    ⊎_elim (λ e. placed k image link_field p n q (refused_before _ _ e)) (λ e. placed k image link_field p n q (refused_before _ _ (refused_before _ _ e)))
