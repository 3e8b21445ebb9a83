-- From the answer of an opening to what it says of the definitions.
-- Assumes nothing.
use Prim.Native.Nat.{ℕ, zero, suc, ◌+◌, ◌≤◌}
use mathlib.Core.Path.{◌≡◌, refl, sym, ◌∙◌, ap}
use mathlib.Core.List.{List}
use mathlib.Core.Option.{some}
use native.Mathlib.Omega.{arith}
use lib.ListN.{length, take, drop, length-drop}
use lib.Seq.{length-take-le}
use borrow.Author.Tests.{leb-true}
use Rattle.spec.specs.Bytes.{to_link}
use Rattle.spec.specs.Answer.{Answer, refused, accepted, passed, at_place}
use Rattle.spec.specs.Block.{Kind, Image, size_at, opening, open_block, open_as, body_of, body_at}
use Rattle.spec.proofs.Answers.{step, Gives, gives, bind, test}
use Rattle.spec.specs.Opening.{OneOfFour}
use mathlib.Core.Logic.{⊎_elim}
use Rattle.spec.proofs.Opening.{no_other_fault, fault_is_passed_on}
use Rattle.image.specs.declared.Span.{Span}
use Rattle.image.specs.declared.Block.{Block}
use Rattle.image.specs.declared.Block.TheVariants.{Open, Shut}
use Rattle.refusal.specs.declared.Reason.{Reason}
use Rattle.refusal.specs.Refused.{number_of, reason_of}
use Rattle.image.specs.Spans.{block_of, seen, IfOpen, block_in, Inside, opened_as}

pub not_nil : (p : ℕ) → (p ≡ 0 → ⊥) → to_link p ≡ some p
not_nil zero h = absurd (h refl)
not_nil (suc p) h = refl

-- ---- a block that does not open is refused with the number of its reason

-- the number of the reason of a block that is shut
unfoldable pub reason_number : Block Span → ℕ
reason_number (Open b) = 0
reason_number (Shut r) = number_of r

-- each of the four has its number
pub four : (n : ℕ) → OneOfFour n → number_of (reason_of n) ≡ n
four n = ⊎_elim (λ e. rw e refl) (⊎_elim (λ e. rw e refl) (⊎_elim (λ e. rw e refl) (λ e. rw e refl)))

shut_is : (k : Kind) (image : Image) (p : ℕ) {r : Reason} → Shut r ≡ block_of p (opening k image p) → opening k image p ≡ refused (number_of r) 0
unfolding reason_number
shut_is k image p {r} = go (opening k image p) refl
  where
    go : (m : Answer (List ℕ)) → opening k image p ≡ m → Shut r ≡ block_of p m → opening k image p ≡ refused (number_of r) 0
    go (refused n' q) o e =
        let f = no_other_fault k image p n' q o in
        let a : number_of r ≡ n' = ap reason_number e ∙ four n' f.0 in
        o ∙ rw (a, f.1)
    go (accepted x) o e = let z : ◌≡◌ {A = ℕ} 0 1 = cc in absurd (omega arith)

-- ---- what is seen of a block

pub seen_shut : {A B : Type 0} {x : Block A} {y : Block B} (view : A → B) {r : Reason} → seen x view ≡ y → x ≡ Shut r → Shut r ≡ y
seen_shut view s e = sym (ap (λ b. seen b view) e) ∙ s

pub seen_open : {A B : Type 0} {x : Block A} {y : Block B} (view : A → B) {b : A} → seen x view ≡ y → x ≡ Open b → Open (view b) ≡ y
seen_open view s e = sym (ap (λ b. seen b view) e) ∙ s

pub if_open : {A : Type 0} {x : Block A} (P : A → Type 0) {b : A} → IfOpen x P → x ≡ Open b → P b
if_open P i e = rw e at i

-- ---- a block that opens

pub record Stands (k : Kind) (image : Image) (p : ℕ) (b : Span) : Type 0 where
  pub is : opening k image p ≡ accepted (block_in image.bytes b)
  pub place : b.at ≡ p
  pub inside : Inside image.bytes b
  pub least : k.least ≤ b.size

opening_stands : (k : Kind) (image : Image) (p : ℕ)
    → Gives (opening k image p) (λ x. (x ≡ take (length x) (drop p image.bytes)) × (p + length x ≤ length image.bytes) × (k.least ≤ length x))
unfolding opening
opening_stands k image p =
    bind _ (test _ _ _) λ _ t₁.
    bind _ (test _ _ _) λ _ t₂.
    bind _ (test _ _ _) λ _ t₃.
    bind _ (test _ _ _) λ _ t₄.
    let l = leb-true (p + size_at image p) (length image.bytes) t₄ in
    let e : length (take (size_at image p) (drop p image.bytes)) ≡ size_at image p = length-take-le (size_at image p) (drop p image.bytes) (rw length-drop (omega arith)) in
    gives _ (rw e, rw e l, rw e (leb-true k.least (size_at image p) t₃))

pub stands : (k : Kind) (image : Image) (p : ℕ) (b : Span) → Open b ≡ block_of p (opening k image p) → Stands k image p b
stands k image p b = go (opening k image p) refl
  where
    go : (m : Answer (List ℕ)) → opening k image p ≡ m → Open b ≡ block_of p m → Stands k image p b
    go (refused n q) o e = let z : ◌≡◌ {A = ℕ} 0 1 = cc in absurd (omega arith)
    go (accepted x) o e =
        let s = (opening_stands k image p).given x o in
        let i : b ≡ record { at = p; size = length x } = cc in
        rw i (record { is = o ∙ ap accepted s.0; place = refl; inside = s.1; least = s.2 })

-- the same of a block in its image
pub opened_stands : (k : Kind) (image : Image) (p : ℕ) {A : Type 0} (view : A → Span) {x : Block A} {b : A}
    → seen x view ≡ block_of p (opening k image p) → x ≡ Open b → Stands k image p (view b)
opened_stands k image p view {b = b} s e = stands k image p (view b) (seen_open view s e)

module _ {A : Type 0} (k : Kind) (read : List ℕ → A) (image : Image) (link_field p : ℕ) where
  pub open_shut : {r : Reason} → Shut r ≡ block_of p (opening k image p) → open_as k read image link_field p ≡ refused (number_of r) link_field
  open_shut e = (fault_is_passed_on A k read image link_field p _ _ (shut_is k image p e)).0

  pub open_open : (b : Span) → Stands k image p b → open_as k read image link_field p ≡ accepted (opened_as read image.bytes b)
  unfolding open_block
  open_open b s =
      let e : length (block_in image.bytes b) ≡ b.size = length-take-le b.size (drop b.at image.bytes) (rw length-drop (omega (arith, s.inside))) in
      step _ (ap (at_place link_field) s.is) (rw (e, s.place))

-- ---- the body behind a link

pub body_none : (k : Kind) (image : Image) (link_field l : ℕ) → l ≡ 0 → accepted tt ≡ passed (body_at k image link_field (to_link l))
unfolding body_at
body_none k image link_field l e = rw e

module _ (k : Kind) (image : Image) (link_field l : ℕ) (h : l ≡ 0 → ⊥) where
  pub body_shut : {r : Reason} → Shut r ≡ block_of l (opening k image l) → refused (number_of r) link_field ≡ passed (body_at k image link_field (to_link l))
  body_shut e = rw (not_nil l h) (sym (ap passed (fault_is_passed_on (List ℕ) k body_of image link_field l _ _ (shut_is k image l e)).1))

  pub body_open : (b : Span) → Stands k image l b → body_at k image link_field (to_link l) ≡ accepted (some (opened_as body_of image.bytes b))
  unfolding body_at
  body_open b s = rw (not_nil l h) (step _ (open_open k body_of image link_field l b s) refl)

  pub body_go : (b : Span) → Open b ≡ block_of l (opening k image l) → accepted tt ≡ passed (body_at k image link_field (to_link l))
  body_go b e = sym (ap passed (body_open b (stands k image l b e)))
