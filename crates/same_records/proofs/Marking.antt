-- Marks of two logs, record by record.
-- Assumes nothing.
use Prim.Native.Nat.{ℕ, ◌<◌}
use mathlib.Core.Path.{◌≡◌, refl, sym, ap, ◌∙◌}
use mathlib.Core.Bool.{Bool, true, false, true≢false}
use mathlib.Core.List.{List, [], ◌∷◌}
use lib.Dec.{eqb}
use denote.Ref.{Bor}
use Rattle.std.specs.Prelude.{Option, Some, None}
use Rattle.std.proofs.Math.Logic.{∥∥₁_elim}
use Rattle.std.proofs.Math.Bridge.{le_prop}
use Rattle.std.specs.Coded.{codes}
use Rattle.std.specs.Cmp.{booleans_Decides}
use Rattle.std.proofs.Math.Bool.{beq}
use Rattle.std.specs.Option.{option_eq, option_copied, unwrap_or}
use lib.ListN.{length, set, get_or}
use lib.Seq.{get_or-set_same, get_or-set_other}
use borrow.Author.Tests.{eqb-true, eqb-false}
use Rattle.reading.specs.Promise.{Keyed, records_with}
use Rattle.reading.specs.declared.Group.{Group}
use Rattle.reading.specs.Steps.{the_group, key_of, log_of}
use Rattle.reading.proofs.Promise.{with_own, with_other, group_rows}
use Rattle.same_records.specs.declared.Marks.{Marks}
use Rattle.same_records.specs.Marks.{Told}

-- of the logs L and M, what is left decides for keys without a mark
pub record Marking (L M l m : List Keyed) (marks : List Bool) : Type 0 where
  pub left : (k : ℕ) → get_or marks k true ≡ false → records_with l k ≡ records_with m k → records_with L k ≡ records_with M k

pub begin : {L M : List Keyed} {marks : List Bool} → Marking L M L M marks
begin = record { left = λ k z e. e }

module _ {L M l m : List Keyed} {marks : List Bool} (p : Marking L M l m marks) where
  -- nothing is left
  pub end : l ≡ [] → m ≡ [] → Told (Some (record { differs = marks })) L M
  end e f = λ k z. p.left k z (rw (e, f))

  module _ (r s : Keyed) {l' m' : List Keyed} (e : l ≡ r ∷ l') (f : m ≡ s ∷ m') (h : r.key ≡ s.key) where
    -- a record of each, with the same key: of other keys nothing changes
    other : (k : ℕ) → (k ≡ r.key → ⊥) → records_with l' k ≡ records_with m' k → records_with l k ≡ records_with m k
    other k n g = rw (e, f) (with_other r l' k n ∙ g ∙ sym (with_other s m' k (λ q. n (q ∙ sym h))))

    -- and of this one neither, where they are the same
    own : (k : ℕ) → k ≡ r.key → r.bytes ≡ s.bytes → records_with l' k ≡ records_with m' k → records_with l k ≡ records_with m k
    own k q b g =
        let x : records_with (r ∷ l') k ≡ r.bytes ∷ records_with l' k = rw q (with_own r l') in
        let y : records_with (s ∷ m') k ≡ s.bytes ∷ records_with m' k = rw (q, h) (with_own s m') in
        let z : r.bytes ∷ records_with l' k ≡ s.bytes ∷ records_with m' k = rw (b, g) in
        rw (e, f) (x ∙ z ∙ sym y)

    pub same_on : r.bytes ≡ s.bytes → Marking L M l' m' marks
    same_on b = record { left = λ k z g. p.left k z (go k (eqb k r.key) refl g) }
      where
        go : (k : ℕ) (t : Bool) → eqb k r.key ≡ t → records_with l' k ≡ records_with m' k → records_with l k ≡ records_with m k
        go k true t g = own k (eqb-true k r.key t) b g
        go k false t g = other k (eqb-false k r.key t) g

    -- else its mark is set
    pub mark_on : r.key < length marks → Marking L M l' m' (set marks r.key true)
    mark_on i = record { left = λ k z g. p.left k (unset k z) (other k (apart k z) g) }
      where
        apart : (k : ℕ) → get_or (set marks r.key true) k true ≡ false → k ≡ r.key → ⊥
        apart k z q = let y = sym (get_or-set_same marks r.key true true i) ∙ sym (ap (λ j. get_or (set marks r.key true) j true) q) ∙ z in absurd (true≢false y)

        unset : (k : ℕ) → get_or (set marks r.key true) k true ≡ false → get_or marks k true ≡ false
        unset k z = sym (get_or-set_other marks r.key k true true (apart k z)) ∙ z

-- ---- what follows for two groups

rows : (g : Group) → (the_group g).records ≡ records_with (log_of g) (key_of g)
rows g = ∥∥₁_elim g.stands (hlevel (codes, le_prop)) (λ s. group_rows _ _ _ _ s)

pub same_by : (g h : Group) (marks : Marks) → Told (Some marks) (log_of g) (log_of h)
    → (k l : ℕ) → k ≡ key_of g → l ≡ key_of h → k ≡ l → get_or marks.differs k true ≡ false → (the_group g).records ≡ (the_group h).records
same_by g h marks told k l x y e z =
    rows g
    ∙ ap (records_with (log_of g)) (sym x)
    ∙ told k z
    ∙ ap (records_with (log_of h)) (e ∙ y)
    ∙ sym (rows h)

-- a mark that is there, and is not set
pub unmarked : (o : Option (Bor Bool)) (z : Bor Bool) {r m : Bool} → z.now ≡ false → r ≡ option_eq (λ x y. beq x.now y.now) o (Some z) → unwrap_or (option_copied o) true ≡ m → r ≡ true → m ≡ false
unmarked None z n e f t = absurd (true≢false (sym t ∙ e))
unmarked (Some x) z n e f t = sym f ∙ (booleans_Decides x.now z.now).0 (sym e ∙ t) ∙ n
