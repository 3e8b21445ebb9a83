-- An accepted image: its header, and the first cursor over its groups.
-- Assumes nothing.
use Prim.Native.Nat.{ℕ, ◌+◌, ◌≤◌, ◌<◌}
use mathlib.Core.Path.{◌≡◌, refl, sym, ◌∙◌, ap}
use mathlib.Core.Bool.{cond}
use mathlib.Core.List.{List, [], ◌∷◌, ◌++◌, append_assoc}
use native.Mathlib.Omega.{arith}
use lib.Dec.{ltb}
use lib.ListN.{length, take, drop, replicate}
use lib.Seq.{drop-drop, take-add}
use borrow.Author.Tests.{leb-true, lt-ltb, le-ltb}
use Rattle.spec.specs.Bytes.{join, field, u32}
use Rattle.spec.specs.Answer.{Answer, refused, accepted, map_answer, passed}
use Rattle.spec.specs.Block.{hd_kind, tx_kind, pr_kind, image_of, version_of, opening, Opened, HdBlock, read_hd}
use Rattle.spec.specs.Reading.{Reading}
use Rattle.spec.specs.Found.{FoundFile, reading_of}
use Rattle.spec.specs.Walk.{walk, reads, file_from}
use Rattle.spec.specs.Call.{Outcome, outcome_of, check_outcome}
use Rattle.spec.proofs.Answers.{stop, Gives, gives, bind, test, anything}
use Rattle.image.specs.declared.Span.{Span}
use Rattle.image.specs.declared.Block.TheVariants.{Shut}
use Rattle.refusal.specs.declared.Reason.{Reason}
use Rattle.image.specs.Spans.{block_of, block_in, Holds}
use Rattle.image.proofs.Blocks.{Stands, open_shut, open_open}
use Rattle.position.specs.Parts.{image_reading, body_behind}
use Rattle.position.specs.Position.{FileFound, FileStands}
use Rattle.position.proofs.Lists.{self, gives_step, not_both}
use Rattle.position.proofs.Bodies.{behind, field_bytes, field_zeros}

module _ (image : List ℕ) where
  -- ---- the header

  shut_gives : {r : Reason} → Shut r ≡ block_of 64 (opening hd_kind (image_of image) 64) → Gives (walk image) (λ _. ⊥)
  unfolding walk file_from
  shut_gives s =
      bind _ (anything _) λ _ _.
      bind _ (anything _) λ _ _.
      bind _ (anything _) λ _ _.
      record { given = λ f e. not_both e (stop _ (open_shut hd_kind (read_hd (version_of (take 64 image))) (image_of image) 64 64 s)) }

  file_gives : (hd : Span) → Stands hd_kind (image_of image) 64 hd → Gives (walk image) (λ f. walk image ≡ accepted f → FileFound image hd)
  unfolding walk file_from read_hd
  file_gives hd s =
      bind _ (anything _) λ _ _.
      bind _ (test _ _ _) λ _ l.
      bind _ (anything _) λ _ _.
      gives_step _ (open_open hd_kind (read_hd (version_of (take 64 image))) (image_of image) 64 64 hd s)
      (bind _ (self _) λ comment e₁.
      bind _ (self _) λ program e₂.
      bind _ (self _) λ data_groups e₃.
      gives _ λ w. record {
        file = _;
        is = w;
        ident = refl;
        long = leb-true _ _ l;
        header = refl;
        holds = record { inside = s.inside; least = s.least };
        comment = behind tx_kind image 72 (u32 8 (block_in image hd)) e₁;
        program = behind pr_kind image 76 (u32 12 (block_in image hd)) e₂;
        data_groups = e₃;
      })

  -- ---- accepted and refused

  pub accepted_is : {f : FoundFile} → walk image ≡ accepted f → (image_reading image ≡ reading_of f) × (reads image ≡ accepted (reading_of f))
  unfolding image_reading reads
  accepted_is e = (rw e, rw e)

  given_file : (m : Answer FoundFile) → outcome_of (accepted tt) ≡ outcome_of (passed m) → (f : FoundFile) × (m ≡ accepted f)
  given_file (accepted f) e = (f, refl)
  given_file (refused n p) e = let v = ap (λ (o : Outcome (Unit {0})). o.value) e in let z : ◌≡◌ {A = ℕ} 0 1 = cc in absurd (omega arith)

  pub passed_file : outcome_of (accepted tt) ≡ check_outcome image → (f : FoundFile) × (walk image ≡ accepted f)
  unfolding check_outcome
  passed_file e = given_file (walk image) e

  refused_of : (m : Answer FoundFile) {n p : ℕ} → outcome_of (refused n p) ≡ outcome_of (passed m) → map_answer reading_of m ≡ refused n p
  refused_of (accepted f) e = let v = ap (λ (o : Outcome (Unit {0})). o.value) e in let z : ◌≡◌ {A = ℕ} 0 1 = cc in absurd (omega arith)
  refused_of (refused k q) {n} {p} e =
      let x : n ≡ k = ap (λ (o : Outcome (Unit {0})). o.number) e in
      let y : p ≡ q = ap (λ (o : Outcome (Unit {0})). o.place) e in
      rw (x, y)

  pub rejected_reading : {n p : ℕ} → outcome_of (refused n p) ≡ check_outcome image → reads image ≡ refused n p
  unfolding check_outcome reads
  rejected_reading e = refused_of (walk image) e

  pub header_opens : outcome_of (accepted tt) ≡ check_outcome image → {r : Reason} → Shut r ≡ block_of 64 (opening hd_kind (image_of image) 64) → ⊥
  header_opens e s = let f = passed_file e in (shut_gives s).given f.0 f.1

  pub file_stands : outcome_of (accepted tt) ≡ check_outcome image → (hd : Span) → Stands hd_kind (image_of image) 64 hd → FileStands image hd
  unfolding FileStands
  file_stands e hd s = let f = passed_file e in (file_gives hd s).given f.0 f.1 f.1

-- ---- what the header says

-- two parts of the image, one behind the other
parts_join : (m n p q : ℕ) (xs z : List ℕ) → q ≡ p + m → take m (drop p xs) ++ (take n (drop q xs) ++ z) ≡ take (m + n) (drop p xs) ++ z
parts_join m n p q xs z e =
    let t : take (m + n) (drop p xs) ≡ take m (drop p xs) ++ take n (drop q xs) = take-add m n (drop p xs) ∙ ap (λ ys. take m (drop p xs) ++ take n ys) (drop-drop m p xs ∙ ap (λ i. drop i xs) (sym e)) in
    rw t (sym (append_assoc (take m (drop p xs)) (take n (drop q xs)) z))

module _ (image : List ℕ) (hd : Span) (s : FileStands image hd) where
  pub file_accepted : reads image ≡ accepted (image_reading image)
  unfolding FileStands
  file_accepted = let a = accepted_is image s.is in a.1 ∙ ap accepted (sym a.0)

  pub file_holds : Holds 164 image hd
  unfolding FileStands
  file_holds = s.holds

  pub file_long : 64 ≤ length image
  unfolding FileStands
  file_long = s.long

  pub file_ident : (image_reading image).ident ≡ take 64 image
  unfolding FileStands reading_of
  file_ident = ap (λ (r : Reading). r.ident) (accepted_is image s.is).0 ∙ s.ident

  pub file_comment : body_behind tx_kind image (u32 8 (block_in image hd)) ≡ (image_reading image).comment
  unfolding FileStands reading_of
  file_comment = s.comment ∙ sym (ap (λ (r : Reading). r.comment) (accepted_is image s.is).0)

  pub file_program : body_behind pr_kind image (u32 12 (block_in image hd)) ≡ (image_reading image).program
  unfolding FileStands reading_of
  file_program = s.program ∙ sym (ap (λ (r : Reading). r.program) (accepted_is image s.is).0)

  pub file_plain : take 146 (drop (hd.at + 18) image) ≡ (image_reading image).plain
  unfolding FileStands reading_of read_hd
  file_plain =
      sym (ap (λ (r : Reading). r.plain) (accepted_is image s.is).0
      ∙ ap (λ (h : Opened HdBlock). h.content.plain) s.header
      ∙ field_bytes image hd s.holds.inside 18 146 (omega (arith, s.holds.least)))

  -- the fields since version 320
  later_is : (image_reading image).later ≡ cond (ltb (version_of (take 64 image)) 320) [] (join (field 8 164 (block_in image hd) ∷ field 2 172 (block_in image hd) ∷ field 2 174 (block_in image hd) ∷ field 32 176 (block_in image hd) ∷ []))
  unfolding FileStands reading_of read_hd
  later_is =
      ap (λ (r : Reading). r.later) (accepted_is image s.is).0 ∙ ap (λ (h : Opened HdBlock). h.content.later) s.header

  pub no_later : version_of (take 64 image) < 320 → (image_reading image).later ≡ []
  no_later l = later_is ∙ rw (lt-ltb (version_of (take 64 image)) 320 l)

  module _ (l : 320 ≤ version_of (take 64 image)) where
    later_fields : (image_reading image).later ≡ join (field 8 164 (block_in image hd) ∷ field 2 172 (block_in image hd) ∷ field 2 174 (block_in image hd) ∷ field 32 176 (block_in image hd) ∷ [])
    later_fields = later_is ∙ rw (le-ltb (version_of (take 64 image)) 320 l)

    held : (offset n : ℕ) → offset + n ≤ hd.size → field n offset (block_in image hd) ≡ take n (drop (hd.at + offset) image)
    held = field_bytes image hd file_holds.inside

    cut : (offset n : ℕ) → hd.size < offset + n → field n offset (block_in image hd) ≡ replicate n 0
    cut = field_zeros image hd file_holds.inside

    pub later_0 : hd.size < 172 → (image_reading image).later ≡ take 0 (drop (hd.at + 164) image) ++ replicate 44 0
    later_0 h = later_fields ∙ rw (cut 164 8 (omega arith), cut 172 2 (omega arith), cut 174 2 (omega arith), cut 176 32 (omega arith))

    pub later_8 : 172 ≤ hd.size → hd.size < 174 → (image_reading image).later ≡ take 8 (drop (hd.at + 164) image) ++ replicate 36 0
    later_8 h₁ h₂ = later_fields ∙ rw (held 164 8 (omega arith), cut 172 2 (omega arith), cut 174 2 (omega arith), cut 176 32 (omega arith))

    module _ (h : 174 ≤ hd.size) where
      first_10 : (z : List ℕ) → take 8 (drop (hd.at + 164) image) ++ (take 2 (drop (hd.at + 172) image) ++ z) ≡ take 10 (drop (hd.at + 164) image) ++ z
      first_10 z = parts_join 8 2 (hd.at + 164) (hd.at + 172) image z (omega arith)

      pub later_10 : hd.size < 176 → (image_reading image).later ≡ take 10 (drop (hd.at + 164) image) ++ replicate 34 0
      later_10 g =
          later_fields ∙ rw (held 164 8 (omega arith), held 172 2 (omega arith), cut 174 2 (omega arith), cut 176 32 (omega arith)) (first_10 (replicate 34 0))

      module _ (k : 176 ≤ hd.size) where
        first_12 : (z : List ℕ) → take 8 (drop (hd.at + 164) image) ++ (take 2 (drop (hd.at + 172) image) ++ (take 2 (drop (hd.at + 174) image) ++ z)) ≡ take 12 (drop (hd.at + 164) image) ++ z
        first_12 z = first_10 (take 2 (drop (hd.at + 174) image) ++ z) ∙ parts_join 10 2 (hd.at + 164) (hd.at + 174) image z (omega arith)

        pub later_12 : hd.size < 208 → (image_reading image).later ≡ take 12 (drop (hd.at + 164) image) ++ replicate 32 0
        later_12 g =
            later_fields ∙ rw (held 164 8 (omega arith), held 172 2 (omega arith), held 174 2 (omega arith), cut 176 32 (omega arith)) (first_12 (replicate 32 0))

        pub later_44 : 208 ≤ hd.size → (image_reading image).later ≡ take 44 (drop (hd.at + 164) image) ++ replicate 0 0
        later_44 g =
            later_fields
            ∙ rw (held 164 8 (omega arith), held 172 2 (omega arith), held 174 2 (omega arith), held 176 32 (omega arith)) (first_12 (take 32 (drop (hd.at + 176) image) ++ []) ∙ parts_join 12 32 (hd.at + 164) (hd.at + 176) image [] (omega arith))
