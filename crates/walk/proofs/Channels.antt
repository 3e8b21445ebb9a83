-- What the code's tests say of a channel.
-- Assumes nothing.
use Prim.Native.Nat.{ℕ, ◌+◌, ◌*◌, ◌≤◌, ◌<◌}
use mathlib.Core.Path.{◌≡◌, refl, sym, ◌∙◌, ap}
use mathlib.Core.Bool.{Bool, true, false, not, ◌||◌}
use mathlib.Core.List.{List}
use native.Mathlib.Omega.{arith}
use lib.Dec.{leb, eqb}
use lib.ListN.{length, take, drop, length-drop}
use Rattle.std.specs.Int.{div_ceil}
use lib.Seq.{drop-drop}
use borrow.Author.Tests.{leb-true, leb-false, le-leb, lt-leb, eq-eqb, ne_eqb}
use Rattle.std.specs.Prelude.{Result, Ok, Err}
use Rattle.refusal.specs.declared.Refusal.{Refusal}
use Rattle.refusal.specs.Refused.{number_of, done}
use Rattle.spec.specs.Bytes.{number, u16, to_link, is_nil}
use Rattle.spec.specs.Answer.{Answer, refused, accepted, ◌>>=◌, require, passed}
use Rattle.spec.specs.Block.{Image, cc_kind, opening, Opened, body_of, body_at, formula, Fields, channel_type, start_bit, bit_count, data_type, added_offset, bits_fit, CnBlock}
use Rattle.spec.specs.Walk.{fields_pass, formula_passes, conversion_at, channel_at}
use Rattle.spec.proofs.Answers.{step, pass, stop, fail}
use Rattle.spec.proofs.Places.{field_in}
use Rattle.refusal.specs.declared.Reason.{Reason}
use Rattle.image.specs.declared.Block.TheVariants.{Shut}
use Rattle.image.specs.declared.Span.{Span}
use Rattle.image.specs.Spans.{block_of, block_in}
use Rattle.image.proofs.Fields.{block_length}
use Rattle.image.proofs.Blocks.{not_nil, Stands, body_shut, body_open}
use Rattle.walk.specs.Steps.{◌then◌, bodies_first, bodies_last}

-- ---- steps

then_of : {A B : Type 0} (m : Answer A) (f : A → Answer B) (s : Answer (Unit {0})) → ((a : A) → passed (f a) ≡ s) → passed (m >>= f) ≡ (passed m then s)
unfolding ◌>>=◌ ◌then◌
then_of (refused n p) f s h = refl
then_of (accepted a) f s h = h a

then_test : {B : Type 0} (m : Answer (Unit {0})) (f : Unit {0} → Answer B) (s : Answer (Unit {0})) → ((a : Unit {0}) → passed (f a) ≡ s) → passed (m >>= f) ≡ (m then s)
unfolding ◌>>=◌ ◌then◌
then_test (refused n p) f s h = refl
then_test (accepted a) f s h = h a

pub then_assoc : {A : Type 0} (a b : Answer (Unit {0})) (t : Answer A) → ((a then b) then t) ≡ (a then (b then t))
unfolding ◌then◌
then_assoc (refused n p) b t = refl
then_assoc (accepted u) b t = refl

then_go : (a : Answer (Unit {0})) → (a then accepted tt) ≡ a
unfolding ◌then◌
then_go (refused n p) = refl
then_go (accepted u) = refl

-- a step of the code that refused, and one that passed
module _ {A : Type 0} {a : Answer (Unit {0})} {x : Result (Unit {0}) Refusal} (d : done x ≡ a) where
  pub then_left : (b : Answer A) {e : Refusal} → x ≡ Err e → refused (number_of e.reason) e.place ≡ (a then b)
  unfolding ◌then◌
  then_left b f = ap (λ y. y then b) (ap done (sym f) ∙ d)

  pub then_right : {b s : Answer A} {u : Unit {0}} → x ≡ Ok u → s ≡ b → s ≡ (a then b)
  unfolding ◌then◌
  then_right {b} f h = h ∙ ap (λ y. y then b) (ap done (sym f) ∙ d)

-- a test of the code, and what comes behind it
module _ {A : Type 0} (t : Bool) (n p : ℕ) (b : Answer A) where
  pub then_fail : t ≡ false → refused n p ≡ (require t n p then b)
  unfolding ◌then◌ require
  then_fail e = rw e

  pub then_pass : {s : Answer A} → t ≡ true → s ≡ b → s ≡ (require t n p then b)
  unfolding ◌then◌ require
  then_pass e h = rw e h

-- of the nil link
pub is_link : (x : ℕ) → (x ≡ 0 → ⊥) → is_nil (to_link x) ≡ false
is_link x h = rw (not_nil x h)

pub is_none : (x : ℕ) → x ≡ 0 → is_nil (to_link x) ≡ true
is_none x e = rw e

-- a number that is 0 allows no other: of a record's size and count, of a mode and its groups
module _ (x y : ℕ) where
  pub other_left : x ≡ 0 → (y ≡ 0 → ⊥) → not (eqb x 0) || eqb y 0 ≡ false
  other_left e d = rw (e, ne_eqb y 0 d)

  pub none_left : y ≡ 0 → not (eqb x 0) || eqb y 0 ≡ true
  none_left e = go (not (eqb x 0)) (eq-eqb y 0 e)
    where
      go : (t : Bool) {u : Bool} → u ≡ true → t || u ≡ true
      go true e = refl
      go false e = e

  pub any_left : (x ≡ 0 → ⊥) → not (eqb x 0) || eqb y 0 ≡ true
  any_left d = rw (ne_eqb x 0 d)

then_stops : {A B : Type 0} (m : Answer A) (f : A → Answer B) {n p : ℕ} → refused n p ≡ passed m → refused n p ≡ passed (m >>= f)
unfolding ◌>>=◌
then_stops (refused n p) f e = e
then_stops (accepted a) f e = let z : ◌≡◌ {A = ℕ} 0 1 = cc in absurd (omega arith)

-- ---- conversion

formula_is : (block : List ℕ) → 44 ≤ length block → formula (body_of block) ≡ u16 42 block
formula_is block h =
    ap number (field_in 2 38 (drop 4 block) (rw length-drop (omega arith)) ∙ ap (take 2) (drop-drop 38 4 block) ∙ sym (field_in 2 42 block h))

module _ (image : Image) (p l : ℕ) where
  pub conversion_none : l ≡ 0 → accepted tt ≡ passed (conversion_at image p (to_link l))
  unfolding conversion_at body_at formula_passes ◌>>=◌
  conversion_none e = rw e

  module _ (h : l ≡ 0 → ⊥) where
    pub conversion_shut : {r : Reason} → Shut r ≡ block_of l (opening cc_kind image l) → refused (number_of r) (p + 8) ≡ passed (conversion_at image p (to_link l))
    unfolding conversion_at
    conversion_shut o = then_stops (body_at cc_kind image (p + 8) (to_link l)) _ (body_shut cc_kind image (p + 8) l h o)

    module _ (b : Span) (s : Stands cc_kind image l b) where
      formula_here : formula (body_of (block_in image.bytes b)) ≡ u16 42 (block_in image.bytes b)
      formula_here = formula_is (block_in image.bytes b) (omega (arith, block_length image.bytes b s.inside, s.least))

      pub formula_links : u16 42 (block_in image.bytes b) ≡ 12 → refused 6 (b.at + 42) ≡ passed (conversion_at image p (to_link l))
      unfolding conversion_at formula_passes
      formula_links e =
          let t : not (eqb (formula (body_of (block_in image.bytes b))) 12) ≡ false = rw (formula_here, e) in
          sym (ap passed (step _ (body_open cc_kind image (p + 8) l h b s) (stop _ (fail _ _ _ t))))

      pub formula_plain : (u16 42 (block_in image.bytes b) ≡ 12 → ⊥) → accepted tt ≡ passed (conversion_at image p (to_link l))
      unfolding conversion_at formula_passes
      formula_plain d =
          let t : not (eqb (formula (body_of (block_in image.bytes b))) 12) ≡ true = rw (formula_here, ne_eqb _ _ d) in
          sym (ap passed (step _ (body_open cc_kind image (p + 8) l h b s) (step _ (pass _ _ _ t) refl)))

-- ---- fields

module _ (w : ℕ) (f : Fields) where
  pub bits_none : bit_count f ≡ 0 → true ≡ bits_fit w f
  bits_none e = rw (eq-eqb (bit_count f) 0 e)

  -- as many bytes as hold so many bits
  whole_bytes : (n : ℕ) → leb (div_ceil n 8) w ≡ leb n (8 * w)
  whole_bytes n = go (leb n (8 * w)) refl
    where
      go : (t : Bool) → leb n (8 * w) ≡ t → leb (div_ceil n 8) w ≡ t
      go true e = le-leb _ _ (omega (arith, leb-true _ _ e))
      go false e = lt-leb _ _ (omega (arith, leb-false _ _ e))

  pub bits_some : (bit_count f ≡ 0 → ⊥) → leb (div_ceil (start_bit f + 8 * added_offset f + bit_count f) 8) w ≡ bits_fit w f
  bits_some d = whole_bytes _ ∙ rw (ne_eqb (bit_count f) 0 d)

  module _ (p : ℕ) where
    pub wrong_type : 1 < channel_type f → refused 9 (p + 24) ≡ fields_pass w p f
    unfolding fields_pass
    wrong_type h = sym (stop _ (fail _ _ _ (lt-leb _ _ h)))

    module _ (h₁ : channel_type f ≤ 1) where
      pub wrong_bits : bits_fit w f ≡ false → refused 9 (p + 186) ≡ fields_pass w p f
      unfolding fields_pass
      wrong_bits e = sym (step _ (pass _ _ _ (le-leb _ _ h₁)) (stop _ (fail _ _ _ e)))

      module _ (h₂ : bits_fit w f ≡ true) where
        pub wrong_data : 16 < data_type f → refused 9 (p + 190) ≡ fields_pass w p f
        unfolding fields_pass
        wrong_data h = sym (step _ (pass _ _ _ (le-leb _ _ h₁)) (step _ (pass _ _ _ h₂) (fail _ _ _ (lt-leb _ _ h))))

        pub fields_good : data_type f ≤ 16 → accepted tt ≡ fields_pass w p f
        unfolding fields_pass
        fields_good h = sym (step _ (pass _ _ _ (le-leb _ _ h₁)) (step _ (pass _ _ _ h₂) (pass _ _ _ (le-leb _ _ h))))

-- ---- the whole channel

pub channel_steps : (image : Image) (size : ℕ) (cn : Opened CnBlock)
    → passed (channel_at image size cn) ≡ (bodies_first image cn then (fields_pass size cn.place cn.content.fields then bodies_last image cn))
unfolding channel_at bodies_first bodies_last
channel_steps image size cn =
    then_of _ _ _
    (λ conversion. then_of _ _ _
    (λ extension. then_test _ _ _
    (λ _. then_of _ _ _
    (λ comment. then_test _ _ _
    (λ _. then_of _ _ _
    (λ long_name. then_of _ _ (accepted tt) (λ display_name. refl)))))))
    ∙ simp (then_assoc, then_go)
