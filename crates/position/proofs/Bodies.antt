-- The body behind a link.
-- Assumes nothing.
use Prim.Native.Nat.{ℕ, zero, suc, ◌+◌, ◌-◌, ◌≤◌, ◌<◌}
use mathlib.Core.Path.{◌≡◌, refl, sym, ◌∙◌, ap}
use mathlib.Core.List.{List, [], ◌∷◌}
use mathlib.Core.Option.{none, some}
use native.Mathlib.Omega.{arith}
use lib.ListN.{length, take, drop, get_or, replicate}
use lib.Seq.{take-nil, drop-drop}
use Rattle.spec.specs.Bytes.{Bytes, field, to_link}
use Rattle.spec.specs.Answer.{Answer, refused, accepted, ◌>>=◌, at_place}
use Rattle.spec.specs.Block.{Kind, image_of, opening, open_block, body_of, body_at}
use Rattle.spec.specs.Found.{FoundBody, read_body}
use Rattle.spec.proofs.Answers.{stop}
use Rattle.spec.proofs.Opens.{open_gives}
use Rattle.image.specs.declared.Span.{Span}
use Rattle.image.specs.declared.Block.TheVariants.{Shut}
use Rattle.refusal.specs.declared.Reason.{Reason}
use Rattle.image.specs.Spans.{block_of, block_in, Inside}
use Rattle.image.proofs.Fields.{block_length}
use Rattle.image.proofs.Fields.{drop_take as inner-take}
use borrow.Author.Tests.{lt-leb}
use Rattle.spec.proofs.Places.{field_in}
use Rattle.image.proofs.Blocks.{not_nil, Stands, open_shut, open_open, body_open}
use Rattle.position.specs.Parts.{body_in, body_behind}
use Rattle.position.proofs.Lists.{not_both}

pub known_bytes : (xs : List ℕ) → ((i : ℕ) → get_or xs i 0 < 256) → Bytes xs
known_bytes [] h = tt
known_bytes (x ∷ xs) h = (h 0, known_bytes xs (λ i. h (suc i)))

drop_take : (n m : ℕ) (xs : List ℕ) → drop n (take m xs) ≡ take (m - n) (drop n xs)
drop_take zero m xs = let e : m - 0 ≡ m = omega arith in rw e
drop_take (suc n) zero xs = let e : 0 - suc n ≡ 0 = omega arith in rw e
drop_take (suc n) (suc m) [] = sym (take-nil (suc m - suc n))
drop_take (suc n) (suc m) (x ∷ xs) = let e : suc m - suc n ≡ m - n = omega arith in rw e (drop_take n m xs)

-- a field that the block holds whole
pub field_bytes : (image : List ℕ) (b : Span) → Inside image b → (offset n : ℕ) → offset + n ≤ b.size → field n offset (block_in image b) ≡ take n (drop (b.at + offset) image)
field_bytes image b i offset n h =
    field_in n offset (block_in image b) (omega (arith, block_length image b i)) ∙ inner-take offset n b.size (drop b.at image) h ∙ ap (take n) (drop-drop offset b.at image)

-- and one that it does not
pub field_zeros : (image : List ℕ) (b : Span) → Inside image b → (offset n : ℕ) → b.size < offset + n → field n offset (block_in image b) ≡ replicate n 0
unfolding field
field_zeros image b i offset n h =
    let l : length (block_in image b) < offset + n = omega (arith, block_length image b i) in
    rw (lt-leb _ _ l)

abbrev found : ℕ → ℕ → Answer (List ℕ) → Answer FoundBody
found p field m = (at_place field m >>= λ block. accepted (record { place = p; size = length block; content = body_of block })) >>= λ block. accepted (some block)

module _ (k : Kind) (image : List ℕ) where
  -- a refusal's place is no matter to the body
  pub behind : (field l : ℕ) {b : FoundBody} → body_at k (image_of image) field (to_link l) ≡ accepted b → body_behind k image l ≡ read_body b
  unfolding body_at body_behind open_block ◌>>=◌
  behind field zero e = ap body_in e
  behind field (suc l) e = go (opening k (image_of image) (suc l)) e
    where
      go : (m : Answer (List ℕ)) {b : FoundBody} → found (suc l) field m ≡ accepted b → body_in (found (suc l) 0 m) ≡ read_body b
      go (refused n q) e = absurd (not_both e refl)
      go (accepted x) {b} e = let i : some (record { place = suc l; size = length x; content = body_of x }) ≡ b = cc in ap read_body i

  pub behind_none : (l : ℕ) → l ≡ 0 → none ≡ body_behind k image l
  unfolding body_at body_behind
  behind_none l e = rw e

  module _ (l : ℕ) (h : l ≡ 0 → ⊥) where
    pub behind_shut : {r : Reason} → Shut r ≡ block_of l (opening k (image_of image) l) → none ≡ body_behind k image l
    unfolding body_at body_behind
    behind_shut e = rw (not_nil l h) (sym (ap body_in (stop _ (open_shut k body_of (image_of image) 0 l e))))

    module _ (b : Span) (s : Stands k (image_of image) l b) where
      pub behind_open : some (take (b.size - 4) (drop (b.at + 4) image)) ≡ body_behind k image l
      unfolding body_behind
      behind_open =
          let e : drop 4 (block_in image b) ≡ take (b.size - 4) (drop (b.at + 4) image) = drop_take 4 b.size (drop b.at image) ∙ rw (drop-drop 4 b.at image) in
          sym (ap body_in (body_open k (image_of image) 0 l h b s) ∙ ap some e)

      pub block_small : Bytes image → b.size < 65536
      block_small bytes =
          let o = (open_gives (image_of image) bytes k (λ x. x) 0 l).given _ (open_open k (λ x. x) (image_of image) 0 l b s) in
          omega (arith, o.1.small, ap length o.2, block_length image b s.inside)
