-- What the code's tests say of a data group, of ID and of the file.
-- Assumes nothing.
use Prim.Native.Nat.{ℕ, ◌+◌, ◌≤◌, ◌<◌}
use mathlib.Core.Path.{◌≡◌, refl, sym, ◌∙◌, ap, ap₂}
use mathlib.Core.Bool.{Bool, true, false, cond, ◌&&◌, ◌||◌}
use mathlib.Core.List.{List}
use native.Mathlib.Omega.{arith}
use lib.Dec.{leb}
use lib.ListN.{length, take}
use lib.Seq.{take-take}
use borrow.Author.Tests.{le-leb, lt-leb, eq-eqb, ne_eqb}
use Rattle.spec.specs.Bytes.{same_bytes, u16, u32, to_link}
use Rattle.spec.specs.Answer.{Answer, refused, accepted, ◌>>=◌, require, passed}
use Rattle.spec.specs.Block.{Image, image_of, hd_kind, tx_kind, pr_kind, finalized, unfinalized, opening, body_at, read_hd}
use Rattle.spec.specs.Walk.{ident_passes, file_from, walk}
use Rattle.spec.specs.Call.{outcome_of, check_outcome}
use Rattle.spec.proofs.Answers.{step, pass, stop, fail}
use Rattle.refusal.specs.declared.Reason.{Reason}
use Rattle.image.specs.declared.Block.TheVariants.{Shut}
use Rattle.image.specs.declared.Span.{Span}
use Rattle.std.specs.Prelude.{Result, Ok, Err}
use Rattle.std.proofs.Common.{Ordering, Less, Equal, Greater}
use Rattle.std.specs.Ordering.{is_le, nat_cmp, MatchOrdering}
use Rattle.std.specs.Cmp.{ranks}
use Rattle.refusal.specs.declared.Refusal.{Refusal}
use Rattle.refusal.specs.Refused.{number_of, done}
use Rattle.image.specs.Spans.{block_of, block_in}
use Rattle.image.proofs.Blocks.{Stands, open_open, open_shut}
use Rattle.walk.specs.Steps.{◌then◌}
use Rattle.walk.proofs.Channels.{then_left, then_right, then_fail, then_pass, is_link, is_none}
use Rattle.file.specs.DataGroups.{groups_then_log, data_group_at, data_groups_from}
use Rattle.file.proofs.DataGroups.{passed_then, passed_test}

-- ---- a data group

module _ (image : Image) (g n : ℕ) (b : Span) where
  pub trigger_stop : (u32 12 (block_in image.bytes b) ≡ 0 → ⊥) → refused 6 (b.at + 12) ≡ data_group_at image g n b
  unfolding data_group_at
  trigger_stop d = then_fail _ _ _ _ (is_link _ d)

  module _ (e : u32 12 (block_in image.bytes b) ≡ 0) where
    pub mode_stop : 2 < u16 22 (block_in image.bytes b) → refused 8 (b.at + 22) ≡ data_group_at image g n b
    unfolding data_group_at
    mode_stop h = then_pass _ _ _ _ (is_none _ e) (then_fail _ _ _ _ (lt-leb _ _ h))

    pub mode_go : u16 22 (block_in image.bytes b) ≤ 2 → groups_then_log image (u16 22 (block_in image.bytes b)) g n b ≡ data_group_at image g n b
    unfolding data_group_at
    mode_go h = then_pass _ _ _ _ (is_none _ e) (then_pass _ _ _ _ (le-leb _ _ h) refl)

-- ---- ID

-- the code's order of numbers
le_is : (x y : ℕ) → is_le (nat_cmp x y) ≡ leb x y
le_is x y = go (nat_cmp x y) (ranks x y)
  where
    go : (o : Ordering) → MatchOrdering o (x < y) (x ≡ y) (y < x) → is_le o ≡ leb x y
    go Less h = sym (le-leb x y (omega (arith, h)))
    go Equal h = sym (le-leb x y (omega (arith, h)))
    go Greater h = sym (lt-leb x y h)

-- that a number lies in a range of the code
pub within : (a b x : ℕ) {r : Bool} → r ≡ is_le (nat_cmp a x) && is_le (nat_cmp x b) → r ≡ leb a x && leb x b
within a b x e = e ∙ ap₂ (λ t u. t && u) (le_is a x) (le_is x b)

module _ (b : List ℕ) where
  short : take 8 (take 64 b) ≡ take 8 b
  short = take-take 8 64 b (omega arith)

  ident_unfinalized : same_bytes (take 8 b) finalized ≡ false → same_bytes (take 8 b) unfinalized ≡ true → refused 3 0 ≡ ident_passes (take 64 b)
  unfolding ident_passes
  ident_unfinalized f u =
      let t : same_bytes (take 8 (take 64 b)) finalized ≡ false = rw short f in
      let e : same_bytes (take 8 (take 64 b)) finalized || same_bytes (take 8 (take 64 b)) unfinalized ≡ true = rw (short, f, u) in
      sym (step _ (pass _ _ _ e) (stop _ (fail _ _ _ t)))

  ident_neither : same_bytes (take 8 b) finalized ≡ false → same_bytes (take 8 b) unfinalized ≡ false → refused 2 0 ≡ ident_passes (take 64 b)
  unfolding ident_passes
  ident_neither f u =
      let e : same_bytes (take 8 (take 64 b)) finalized || same_bytes (take 8 (take 64 b)) unfinalized ≡ false = rw (short, f, u) in
      sym (stop _ (fail _ _ _ e))

  -- an ID that is shut
  pub ident_refused : {n : ℕ} → same_bytes (take 8 b) finalized ≡ false → n ≡ cond (same_bytes (take 8 b) unfinalized) 3 2 → refused n 0 ≡ ident_passes (take 64 b)
  ident_refused f e = go (same_bytes (take 8 b) unfinalized) refl e
    where
      go : (u : Bool) {n : ℕ} → same_bytes (take 8 b) unfinalized ≡ u → n ≡ cond u 3 2 → refused n 0 ≡ ident_passes (take 64 b)
      go true u e = rw e (ident_unfinalized f u)
      go false u e = rw e (ident_neither f u)

  module _ (f : same_bytes (take 8 b) finalized ≡ true) where
    t : same_bytes (take 8 (take 64 b)) finalized ≡ true
    t = rw short f

    e : same_bytes (take 8 (take 64 b)) finalized || same_bytes (take 8 (take 64 b)) unfinalized ≡ true
    e = rw (short, f)

    pub ident_order : (u16 24 (take 64 b) ≡ 0 → ⊥) → refused 4 24 ≡ ident_passes (take 64 b)
    unfolding ident_passes
    ident_order d = sym (step _ (pass _ _ _ e) (step _ (pass _ _ _ t) (stop _ (fail _ _ _ (ne_eqb _ _ d)))))

    module _ (o : u16 24 (take 64 b) ≡ 0) where
      pub ident_floats : (u16 26 (take 64 b) ≡ 0 → ⊥) → refused 4 26 ≡ ident_passes (take 64 b)
      unfolding ident_passes
      ident_floats d =
          sym (step _ (pass _ _ _ e) (step _ (pass _ _ _ t) (step _ (pass _ _ _ (eq-eqb _ _ o)) (stop _ (fail _ _ _ (ne_eqb _ _ d))))))

      module _ (i : u16 26 (take 64 b) ≡ 0) where
        version_test : (v : Bool) → leb 300 (u16 28 (take 64 b)) && leb (u16 28 (take 64 b)) 399 ≡ v → ident_passes (take 64 b) ≡ require v 4 28
        unfolding ident_passes
        version_test v w =
            step _ (pass _ _ _ e) (step _ (pass _ _ _ t) (step _ (pass _ _ _ (eq-eqb _ _ o)) (step _ (pass _ _ _ (eq-eqb _ _ i)) (rw w))))

        pub ident_version : leb 300 (u16 28 (take 64 b)) && leb (u16 28 (take 64 b)) 399 ≡ false → refused 4 28 ≡ ident_passes (take 64 b)
        unfolding require
        ident_version v = sym (version_test false v)

        pub ident_good : leb 300 (u16 28 (take 64 b)) && leb (u16 28 (take 64 b)) 399 ≡ true → accepted tt ≡ ident_passes (take 64 b)
        unfolding require
        ident_good v = sym (version_test true v)

-- ---- HD

passed_last : {A B : Type 0} (f : A → B) (m : Answer A) → passed (m >>= λ a. accepted (f a)) ≡ passed m
unfolding ◌>>=◌
passed_last f (refused k p) = refl
passed_last f (accepted a) = refl

module _ (image : Image) (ident : List ℕ) where
  pub header_shut : {r : Reason} → Shut r ≡ block_of 64 (opening hd_kind image 64) → refused (number_of r) 64 ≡ passed (file_from image ident)
  unfolding file_from
  header_shut o = sym (ap passed (stop _ (open_shut hd_kind (read_hd image.version) image 64 64 o)))

  module _ (b : Span) (s : Stands hd_kind image 64 b) where
    -- its links, where it stands at p
    abbrev followed : ℕ → Answer (Unit {0})
    followed p =
        passed (body_at tx_kind image (p + 8) (to_link (u32 8 (block_in image.bytes b))))
        then passed (body_at pr_kind image (p + 12) (to_link (u32 12 (block_in image.bytes b))))
        then data_groups_from image (p + 4) (u32 4 (block_in image.bytes b)) 0 0 0

    at_64 : followed 64 ≡ passed (file_from image ident)
    unfolding file_from data_groups_from read_hd
    at_64 =
        sym (ap passed (step _ (open_open hd_kind (read_hd image.version) image 64 64 b s) refl)
        ∙ passed_then _ _ _ (λ x. passed_then _ _ _ (λ y. passed_last _ _)))

    pub header_is : followed b.at ≡ passed (file_from image ident)
    header_is = ap followed s.place ∙ at_64

-- ---- the whole image

module _ (b : List ℕ) where
  pub check_long : 2147483647 < length b → outcome_of (refused 1 0) ≡ check_outcome b
  unfolding check_outcome walk
  check_long h = sym (ap (λ m. outcome_of (passed m)) (stop _ (fail _ _ _ (lt-leb _ _ h))))

  module _ (h : length b ≤ 2147483647) where
    pub check_short : length b < 64 → outcome_of (refused 2 0) ≡ check_outcome b
    unfolding check_outcome walk
    check_short l = sym (ap (λ m. outcome_of (passed m)) (step _ (pass _ _ _ (le-leb _ _ h)) (stop _ (fail _ _ _ (lt-leb _ _ l)))))

    module _ (l : 64 ≤ length b) where
      walk_is : (ident_passes (take 64 b) then passed (file_from (image_of b) (take 64 b))) ≡ passed (walk b)
      unfolding walk
      walk_is =
          sym (ap passed (step _ (pass _ _ _ (le-leb _ _ h)) (step _ (pass _ _ _ (le-leb _ _ l)) refl)) ∙ passed_test _ _ _ (λ _. refl))

      module _ {x : Result (Unit {0}) Refusal} (d : done x ≡ ident_passes (take 64 b)) where
        pub check_ident : {e : Refusal} → x ≡ Err e → outcome_of (refused (number_of e.reason) e.place) ≡ check_outcome b
        unfolding check_outcome
        check_ident f = ap outcome_of (then_left d _ f ∙ walk_is)

        pub check_file : {u : Unit {0}} → x ≡ Ok u → {m : Answer (Unit {0})} → m ≡ passed (file_from (image_of b) (take 64 b)) → outcome_of m ≡ check_outcome b
        unfolding check_outcome
        check_file f e = ap outcome_of (then_right d f e ∙ walk_is)
