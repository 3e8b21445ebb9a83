-- What the difference list owes: just the entries that are due, in order, 16 bytes each; none exactly when the readings are equal. Statements only; docs/RULES.md, 12.
-- Proofs: proofs/Differing.antt; for the order EntryOrder.antt, for the entries that are due Due.antt, for numbers that fit EntryFits.antt.
-- Assumes nothing.
use Rattle.std.specs.Prelude.{ℕ, ◌+◌, ◌≤◌, ◌<◌, ◌≡◌, ◌↔◌, ◌⊎◌, length, take, drop, get_or}
use mathlib.Core.List.{List, [], ◌∷◌, ◌++◌, Memᴰ}
use Rattle.std.proofs.Math.Option.{Option, none, some}
use Rattle.std.proofs.Math.ListN.{get_elem?}
use Rattle.spec.specs.Bytes.{All, Bytes, difference, u16, u32}
use Rattle.spec.specs.Answer.{accepted}
use Rattle.spec.specs.Reading.{Channel, Group, Reading}
use Rattle.spec.specs.Walk.{reads, most}
use Rattle.spec.specs.Canonical.{canonical_copy}
use Rattle.spec.specs.Differences.{Entry, entry, entry_bytes, differences, list_length, list_bytes}
use Rattle.spec.specs.Call.{copy_outcome, compare_outcome}
use Rattle.spec.specs.Demand3.{Copyable, copy_in, Same}

-- ---- the byte place

-- n is the first place at which two lists differ; where it is not within both, it is the shorter length
pub record FirstDifference (xs ys : List ℕ) (n : ℕ) : Type 0 where
  pub in_first : n ≤ length xs
  pub in_second : n ≤ length ys
  pub before : take n xs ≡ take n ys
  pub there : n < length xs → n < length ys → get_or xs n 0 ≡ get_or ys n 0 → ⊥

abbrev pub DifferenceIsTheFirst : Type 0
DifferenceIsTheFirst = (xs ys : List ℕ) → FirstDifference xs ys (difference xs ys)

-- ---- which entries are due, item by item

-- 1: ID, HD fields, comment, program
abbrev pub FileDue : Reading → Reading → Entry → Type 0
FileDue r s e =
    ((r.ident ≡ s.ident → ⊥) × (e ≡ entry 1 0 0 0))
    ⊎ (((r.plain ≡ s.plain) × (r.later ≡ s.later) → ⊥) × (e ≡ entry 1 0 1 0))
    ⊎ ((r.comment ≡ s.comment → ⊥) × (e ≡ entry 1 0 2 0))
    ⊎ ((r.program ≡ s.program → ⊥) × (e ≡ entry 1 0 3 0))

-- 3, of a group's own fields and comment
abbrev pub OwnDue : ℕ → Group → Group → Entry → Type 0
OwnDue g p q e = ((p.record_size ≡ q.record_size) × (p.comment ≡ q.comment) → ⊥) × (e ≡ entry 3 g 0 0)

-- 3, of a channel, also of one that one file alone has; i is its item
abbrev pub ChannelDue : ℕ → ℕ → Option Channel → Option Channel → Entry → Type 0
ChannelDue g i c d e = (c ≡ d → ⊥) × (e ≡ entry 3 g i 0)

-- 5 of a record that one file alone has, else 4
abbrev pub RecordDue : ℕ → ℕ → Option (List ℕ) → Option (List ℕ) → Entry → Type 0
RecordDue g i none none e = ⊥
RecordDue g i none (some y) e = e ≡ entry 5 g i 0
RecordDue g i (some x) none e = e ≡ entry 5 g i 0
RecordDue g i (some x) (some y) e = (x ≡ y → ⊥) × (b : ℕ) × FirstDifference x y b × (e ≡ entry 4 g i b)

-- 2 of a group that one file alone has, else those of its parts
abbrev pub GroupDue : ℕ → Option Group → Option Group → Entry → Type 0
GroupDue g none none e = ⊥
GroupDue g none (some q) e = e ≡ entry 2 g 0 0
GroupDue g (some p) none e = e ≡ entry 2 g 0 0
GroupDue g (some p) (some q) e =
    OwnDue g p q e
    ⊎ ((c : ℕ) × ChannelDue g (c + 1) (get_elem? p.channels c) (get_elem? q.channels c) e)
    ⊎ ((i : ℕ) × RecordDue g i (get_elem? p.records i) (get_elem? q.records i) e)

abbrev pub Due : Reading → Reading → Entry → Type 0
Due r s e = FileDue r s e ⊎ ((g : ℕ) × GroupDue g (get_elem? r.groups g) (get_elem? s.groups g) e)

-- the list has these and no others
abbrev pub EntriesAreThoseDue : Type 0
EntriesAreThoseDue = (r s : Reading) (e : Entry) → Memᴰ e (differences r s) ↔ Due r s e

-- ---- the list

-- by group, then kind, then item
pub data Before (d e : Entry) : Type 0 where
  by_group : d.group < e.group → Before d e
  by_kind : d.group ≡ e.group → d.kind < e.kind → Before d e
  by_item : d.group ≡ e.group → d.kind ≡ e.kind → d.item < e.item → Before d e

-- each before all that follow: so no item has two entries
abbrev pub Ordered : List Entry → Type 0
Ordered [] = Unit {0}
Ordered (e ∷ es) = All (Before e) es × Ordered es

abbrev pub NoDifferenceExactlyWhenEqual : Type 0
NoDifferenceExactlyWhenEqual = (r s : Reading) → (differences r s ≡ []) ↔ (r ≡ s)

abbrev pub EntriesAreOrdered : Type 0
EntriesAreOrdered = (r s : Reading) → Ordered (differences r s)

-- no other list in this order has the entries that are due
abbrev pub ListIsDetermined : Type 0
ListIsDetermined = (r s : Reading) (es : List Entry) → Ordered es → ((e : Entry) → Memᴰ e es ↔ Due r s e) → es ≡ differences r s

-- which file is the first makes no difference
abbrev pub ListIsSymmetric : Type 0
ListIsSymmetric = (r s : Reading) → differences r s ≡ differences s r

-- ---- its bytes

-- an entry whose numbers fit their 2 and 4 bytes
pub record Fits (e : Entry) : Type 0 where
  pub kind : e.kind < 65536
  pub group : e.group < 4294967296
  pub item : e.item < 4294967296
  pub byte : e.byte < 4294967296

abbrev pub EntriesFit : Type 0
EntriesFit =
    (a b : List ℕ) (r s : Reading) → Bytes a → Bytes b → reads a ≡ accepted r → reads b ≡ accepted s → (e : Entry) → Memᴰ e (differences r s) → Fits e

-- so they are read from its bytes: a UINT16, two zero bytes, three UINT32
abbrev pub EntryIsReadBack : Type 0
EntryIsReadBack =
    (e : Entry)
    → Fits e
    → (u16 0 (entry_bytes e) ≡ e.kind)
    × (u16 2 (entry_bytes e) ≡ 0)
    × (u32 4 (entry_bytes e) ≡ e.group)
    × (u32 8 (entry_bytes e) ≡ e.item)
    × (u32 12 (entry_bytes e) ≡ e.byte)

abbrev pub ListHasTheLength : Type 0
ListHasTheLength = (r s : Reading) → length (list_bytes r s) ≡ list_length r s

abbrev pub ListIsBytes : Type 0
ListIsBytes = (r s : Reading) → Bytes (list_bytes r s)

-- ---- the call

-- the list stands before what the output held
abbrev pub CompareSucceeds : Type 0
CompareSucceeds =
    (a b : List ℕ) (r s : Reading)
    → reads a ≡ accepted r
    → reads b ≡ accepted s
    → list_length r s ≤ most
    → (out : List ℕ)
    → list_length r s ≤ length out
    → compare_outcome a b out ≡ record { given = record { number = 0; place = 0; value = some (list_length r s) }; memory = list_bytes r s ++ drop (list_length r s) out }

-- the place is the length that it needs
abbrev pub CompareNeedsRoom : Type 0
CompareNeedsRoom =
    (a b : List ℕ) (r s : Reading)
    → reads a ≡ accepted r
    → reads b ≡ accepted s
    → list_length r s ≤ most
    → (out : List ℕ)
    → length out < list_length r s
    → compare_outcome a b out ≡ record { given = record { number = 13; place = list_length r s; value = none }; memory = out }

-- its value is 0 exactly when the readings are equal
abbrev pub ListIsEmptyExactlyWhenReadingsAreEqual : Type 0
ListIsEmptyExactlyWhenReadingsAreEqual =
    (a b : List ℕ) (r s : Reading) → reads a ≡ accepted r → reads b ≡ accepted s → (out : List ℕ) → ((compare_outcome a b out).given.value ≡ some 0) ↔ (r ≡ s)

-- ---- with demand 3: the list and the two copies decide each other

abbrev pub NoDifferenceExactlyWhenCopiesAreEqual : Type 0
NoDifferenceExactlyWhenCopiesAreEqual =
    (a b : List ℕ) (r s : Reading) → Copyable a r → Copyable b s → (differences r s ≡ []) ↔ (canonical_copy r ≡ canonical_copy s)

-- of the calls alone: where both copies are made, whatever the three outputs hold
abbrev pub ListIsEmptyExactlyWhenCopiesAreEqual : Type 0
ListIsEmptyExactlyWhenCopiesAreEqual =
    (a b m n out : List ℕ) (i j : ℕ)
    → Bytes a
    → Bytes b
    → (copy_outcome a m).given.value ≡ some i
    → (copy_outcome b n).given.value ≡ some j
    → ((compare_outcome a b out).given.value ≡ some 0) ↔ Same (copy_in a m) (copy_in b n)
