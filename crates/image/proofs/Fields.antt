-- Fields of a block that stands in an image.
-- Assumes nothing.
use Prim.Native.Nat.{ℕ, zero, suc, ◌+◌, ◌≤◌, ◌<◌}
use mathlib.Core.Path.{◌≡◌, refl, sym, ◌∙◌, ap}
use mathlib.Core.List.{List, [], ◌∷◌}
use native.Mathlib.Omega.{arith}
use lib.ListN.{length, take, drop, replicate, length-drop}
use lib.Seq.{drop-drop, take-take, length-take-le}
use borrow.Author.Tests.{lt-leb}
use Rattle.spec.specs.Bytes.{number, field}
use Rattle.spec.proofs.Places.{field_in}
use Rattle.image.specs.declared.Span.{Span}
use Rattle.image.specs.Spans.{number_at, block_in, Inside, field_number}

pub drop_take : (off n size : ℕ) (xs : List ℕ) → off + n ≤ size → take n (drop off (take size xs)) ≡ take n (drop off xs)
drop_take zero n size xs h = take-take n size xs (omega arith)
drop_take (suc off) n zero xs h = absurd (omega arith)
drop_take (suc off) n (suc size) [] h = refl
drop_take (suc off) n (suc size) (x ∷ xs) h = drop_take off n size xs (omega arith)

number_zeros : (n : ℕ) → number (replicate n 0) ≡ 0
number_zeros zero = refl
number_zeros (suc n) = omega (arith, number_zeros n)

module _ (image : List ℕ) (b : Span) (inside : Inside image b) where
  pub block_length : length (block_in image b) ≡ b.size
  block_length = length-take-le b.size (drop b.at image) (rw length-drop (omega arith))

  pub field_held : (offset n : ℕ) → offset + n ≤ b.size → number_at image (b.at + offset) n ≡ field_number image b offset n
  unfolding number_at
  field_held offset n h =
      sym (ap number (field_in n offset (block_in image b) (omega (arith, block_length)) ∙ drop_take offset n b.size (drop b.at image) h ∙ ap (take n) (drop-drop offset b.at image)))

  pub field_cut : (offset n : ℕ) → b.size < offset + n → 0 ≡ field_number image b offset n
  unfolding field
  field_cut offset n h =
      let l : length (block_in image b) < offset + n = omega (arith, block_length) in
      rw (lt-leb _ _ l) (sym (number_zeros n))
