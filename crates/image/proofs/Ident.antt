-- The identification block.
-- Assumes nothing.
use Prim.Native.Nat.{ℕ, ◌+◌, ◌≤◌, ◌<◌}
use mathlib.Core.Path.{◌≡◌, refl, sym, ◌∙◌, ap}
use mathlib.Core.Bool.{Bool, true, false, cond}
use mathlib.Core.List.{List, [], ◌∷◌}
use Rattle.std.specs.Prelude.{nat_eq}
use Rattle.std.specs.Cmp.Lexicographic.{pointwise}
use Rattle.spec.proofs.Bytes.{eqb_turned}
use native.Mathlib.Omega.{arith}
use lib.ListN.{length, take, length-take}
use borrow.Author.Tests.{le-leb, lt-leb}
use Rattle.spec.specs.Bytes.{same_bytes, number, field}
use Rattle.spec.specs.Block.{finalized, unfinalized, image_of}
use Rattle.spec.proofs.Places.{field_in}
use Rattle.image.specs.declared.Span.{Span}
use Rattle.image.specs.declared.Block.TheVariants.{Open, Shut}
use Rattle.refusal.specs.declared.Reason.{Reason}
use Rattle.refusal.specs.declared.Reason.TheVariants.{NoMdf, Unfinalized}
use Rattle.refusal.specs.Refused.{number_of}
use Rattle.image.specs.Spans.{number_at, block_in, Inside, ident_block}
use Rattle.image.proofs.Fields.{drop_take}
use Rattle.image.proofs.Blocks.{reason_number}

-- ---- its identifier

-- that the image begins with a name, as the definition tests it
pub begins_with : (xs ys : List ℕ) → pointwise nat_eq ys xs ≡ same_bytes xs ys
begins_with [] [] = refl
begins_with [] (y ∷ ys) = refl
begins_with (x ∷ xs) [] = refl
begins_with (x ∷ xs) (y ∷ ys) = rw (eqb_turned y x, begins_with xs ys)

-- ---- its opening

module _ (b : List ℕ) where
  pub ident_short : length b < 64 → Shut NoMdf ≡ ident_block b
  unfolding ident_block
  ident_short h = rw (lt-leb 64 (length b) h)

  module _ (l : 64 ≤ length b) where
    ident_is : (t u : Bool) → same_bytes (take 8 b) finalized ≡ t → same_bytes (take 8 b) unfinalized ≡ u
        → cond t (Open (record { at = 0; size = 64 })) (Shut (cond u Unfinalized NoMdf)) ≡ ident_block b
    unfolding ident_block
    ident_is t u f g = rw (le-leb 64 (length b) l, f, g)

    pub ident_named : same_bytes (take 8 b) finalized ≡ true → Open (record { at = 0; size = 64 }) ≡ ident_block b
    ident_named f = ident_is true _ f refl

    pub ident_unfinished : same_bytes (take 8 b) finalized ≡ false → same_bytes (take 8 b) unfinalized ≡ true → Shut Unfinalized ≡ ident_block b
    ident_unfinished f g = ident_is false true f g

    pub ident_other : same_bytes (take 8 b) finalized ≡ false → same_bytes (take 8 b) unfinalized ≡ false → Shut NoMdf ≡ ident_block b
    ident_other f g = ident_is false false f g

    pub ident_shut : {r : Reason} → Shut r ≡ ident_block b → (same_bytes (take 8 b) finalized ≡ false) × (number_of r ≡ cond (same_bytes (take 8 b) unfinalized) 3 2)
    unfolding reason_number
    ident_shut {r} e = go (same_bytes (take 8 b) finalized) (same_bytes (take 8 b) unfinalized) refl refl
      where
        go : (t u : Bool) → same_bytes (take 8 b) finalized ≡ t → same_bytes (take 8 b) unfinalized ≡ u
            → (same_bytes (take 8 b) finalized ≡ false) × (number_of r ≡ cond (same_bytes (take 8 b) unfinalized) 3 2)
        go true u f g = let e' = e ∙ sym (ident_named f) in let z : ◌≡◌ {A = ℕ} 0 1 = cc in absurd (omega arith)
        go false true f g = (f, ap reason_number (e ∙ sym (ident_is false true f g)) ∙ rw g)
        go false false f g = (f, ap reason_number (e ∙ sym (ident_is false false f g)) ∙ rw g)

    pub record IdentStands (s : Span) : Type 0 where
      pub named : same_bytes (take 8 b) finalized ≡ true
      pub inside : Inside b s
      pub bytes : block_in b s ≡ take 64 b

    pub ident_stands : (s : Span) → Open s ≡ ident_block b → IdentStands s
    ident_stands s e = go (same_bytes (take 8 b) finalized) refl
      where
        go : (t : Bool) → same_bytes (take 8 b) finalized ≡ t → IdentStands s
        go true f =
            let e' = e ∙ sym (ident_named f) in
            let i : s ≡ record { at = 0; size = 64 } = cc in
            record { named = f; inside = rw i (omega arith); bytes = rw i refl }
        go false f = let e' = e ∙ sym (ident_is false _ f refl) in let z : ◌≡◌ {A = ℕ} 0 1 = cc in absurd (omega arith)

-- ---- its version

module _ (b : List ℕ) where
  pub version_short : length b < 30 → 0 ≡ (image_of b).version
  unfolding field
  version_short h =
      let l : length (take 64 b) < 30 = rw length-take (omega arith) in
      rw (lt-leb 30 (length (take 64 b)) l)

  pub version_long : 30 ≤ length b → number_at b 28 2 ≡ (image_of b).version
  unfolding number_at
  version_long h =
      let l : 28 + 2 ≤ length (take 64 b) = rw length-take (omega arith) in
      sym (ap number (field_in 2 28 (take 64 b) l ∙ drop_take 28 2 64 b (omega arith)))
