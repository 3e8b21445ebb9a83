-- What tests on an image say of the opening of a block.
-- Assumes nothing.
use Prim.Native.Nat.{ℕ, ◌+◌, ◌-◌, ◌≤◌, ◌<◌}
use mathlib.Core.Path.{◌≡◌, refl, sym, ◌∙◌, ap}
use mathlib.Core.List.{List, [], ◌∷◌}
use native.Mathlib.Omega.{arith}
use mathlib.Core.Bool.{Bool, true, false}
use Rattle.std.specs.Prelude.{nat_eq}
use Rattle.std.specs.Bool.{Decides}
use Rattle.std.specs.List.{starts_with}
use Rattle.std.proofs.lemmas.Bool.Decides.{Decides-eqb, not_from_Decides}
use Rattle.std.proofs.lemmas.List.{take_rest}
use Rattle.std.proofs.lemmas.Slice.Eq.{slice_eq-Decides}
use lib.ListN.{length, get_or, take, drop, length-drop}
use lib.Seq.{drop-drop, length-take-le}
use Rattle.spec.specs.Block.{Kind, identifier, Image, size_at, opening}
use Rattle.spec.proofs.Opening.{head_not_inside, other_identifier, size_below_least, end_beyond_image, block_inside}
use Rattle.image.specs.declared.Block.TheVariants.{Open, Shut}
use Rattle.refusal.specs.declared.Reason.TheVariants.{BlockHead, BlockIdentifier, BlockSize, BlockEnd}
use Rattle.image.specs.Spans.{number_at, kind_of, block_of}

-- two bytes one by one, as the identifier of a kind has them
pub two_bytes : (id : List ℕ) → length id ≡ 2 → id ≡ get_or id 0 0 ∷ get_or id 1 0 ∷ []
two_bytes [] e = absurd (omega (arith, e))
two_bytes (x ∷ []) e = absurd (omega (arith, e))
two_bytes (x ∷ y ∷ []) e = refl
two_bytes (x ∷ y ∷ z ∷ zs) e = absurd (omega (arith, e))

-- ---- the tests of an opening, one after the other

module _ (id : List ℕ) (least : ℕ) (image : Image) (p : ℕ) where
  abbrev b : List ℕ
  b = image.bytes

  abbrev k : Kind
  k = kind_of id least

  pub no_head : length image.bytes < p + 4 → Shut BlockHead ≡ block_of p (opening (kind_of id least) image p)
  no_head h = sym (ap (block_of p) (head_not_inside k image p h))

  -- named: what the test of the identifier gives
  module _ (h : p + 4 ≤ length image.bytes) (two : length id ≡ 2) (named : Bool) (test : named ≡ starts_with nat_eq (take (length image.bytes - p) (drop p image.bytes)) id) where
    same : Decides named (id ≡ take 2 (drop p b))
    same = slice_eq-Decides Decides-eqb id (take 2 (drop p b)) named (test ∙ rw (take_rest b p, two) refl)

    size_is : number_at b (p + 2) 2 ≡ size_at image p
    unfolding number_at
    size_is = rw (drop-drop 2 p b)

    pub other : named ≡ false → Shut BlockIdentifier ≡ block_of p (opening (kind_of id least) image p)
    other f =
        let d = λ (e : take 2 (drop p b) ≡ identifier k). not_from_Decides named same f (two_bytes id two ∙ sym e) in
        sym (ap (block_of p) (other_identifier k image p h d))

    module _ (t : named ≡ true) (n : ℕ) (s : n ≡ number_at image.bytes (p + 2) 2) where
      begins : take 2 (drop p b) ≡ identifier k
      begins = sym (same.0 t) ∙ two_bytes id two

      size_n : size_at image p ≡ n
      size_n = sym (s ∙ size_is)

      pub too_small : n < least → Shut BlockSize ≡ block_of p (opening (kind_of id least) image p)
      too_small l = sym (ap (block_of p) (size_below_least k image p h begins (rw size_n l)))

      module _ (l : least ≤ n) where
        pub too_long : length image.bytes < p + n → Shut BlockEnd ≡ block_of p (opening (kind_of id least) image p)
        too_long m = sym (ap (block_of p) (end_beyond_image k image p h begins (rw size_n l) (rw size_n m)))

        pub opens : p + n ≤ length image.bytes → Open (record { at = p; size = n }) ≡ block_of p (opening (kind_of id least) image p)
        opens m =
            let e : length (take (size_at image p) (drop p b)) ≡ n = rw size_n (length-take-le n (drop p b) (rw length-drop (omega arith))) in
            ap (λ x. Open (record { at = p; size = x })) (sym e)
            ∙ sym (ap (block_of p) (block_inside k image p h begins (rw size_n l) (rw size_n m)))
