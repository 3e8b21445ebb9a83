-- The differences of two readings, as entries of 16 bytes; docs/RULES.md, 12.
-- Assumes nothing.
use Rattle.std.specs.Prelude.{ℕ, suc, ◌*◌, Bool, true, false, ◌&&◌, List, [], ◌∷◌, ◌++◌, map, eqb, length}
use Rattle.std.proofs.Math.Option.{none, some}
use Rattle.spec.specs.Bytes.{bytes_of, same_bytes, difference, join}
use Rattle.spec.specs.Reading.{Body, Channel, Group, Reading}

-- ---- entries

pub record Entry : Type 0 where
  pub kind : ℕ
  pub group : ℕ
  pub item : ℕ
  pub byte : ℕ  -- of kind 4; else 0

abbrev pub entry : ℕ → ℕ → ℕ → ℕ → Entry
entry kind group item byte = record { kind = kind; group = group; item = item; byte = byte }

abbrev pub entry_size : ℕ
entry_size = 16

-- its numbers one behind the other, each with its lowest byte first; bytes 2 and 3 are zeros
abbrev pub entry_bytes : Entry → List ℕ
entry_bytes e = join (bytes_of 2 e.kind ∷ bytes_of 2 0 ∷ bytes_of 4 e.group ∷ bytes_of 4 e.item ∷ bytes_of 4 e.byte ∷ [])

-- the entry where the two are not the same
abbrev pub unless : Bool → Entry → List Entry
unless true e = []
unless false e = e ∷ []

-- ---- the same

abbrev pub same_body : Body → Body → Bool
same_body none none = true
same_body none (some y) = false
same_body (some x) none = false
same_body (some x) (some y) = same_bytes x y

unfoldable pub same_channel : Channel → Channel → Bool
same_channel c d =
    same_bytes c.fields.main d.fields.main
    && same_bytes c.fields.added d.fields.added
    && same_body c.conversion d.conversion
    && same_body c.extension d.extension
    && same_body c.comment d.comment
    && same_body c.long_name d.long_name
    && same_body c.display_name d.display_name

-- a group's own fields and comment
unfoldable pub same_own : Group → Group → Bool
same_own g h = eqb g.record_size h.record_size && same_body g.comment h.comment

unfoldable pub same_header : Reading → Reading → Bool
same_header r s = same_bytes r.plain s.plain && same_bytes r.later s.later

-- ---- the entries of each part

-- an entry of this kind for each item that one file alone has, from item i on
unfoldable pub alone : {A : Type 0} → ℕ → ℕ → ℕ → List A → List Entry
alone kind g i [] = []
alone kind g i (x ∷ xs) = entry kind g i 0 ∷ alone kind g (suc i) xs

-- 1: ID, HD fields, comment, program
unfoldable pub file_entries : Reading → Reading → List Entry
file_entries r s =
    unless (same_bytes r.ident s.ident) (entry 1 0 0 0)
    ++ (unless (same_header r s) (entry 1 0 1 0)
    ++ (unless (same_body r.comment s.comment) (entry 1 0 2 0)
    ++ unless (same_body r.program s.program) (entry 1 0 3 0)))

-- 3: channels, from item i on
unfoldable pub channel_entries : ℕ → ℕ → List Channel → List Channel → List Entry
channel_entries g i [] ds = alone 3 g i ds
channel_entries g i (c ∷ cs) [] = alone 3 g i (c ∷ cs)
channel_entries g i (c ∷ cs) (d ∷ ds) = unless (same_channel c d) (entry 3 g i 0) ++ channel_entries g (suc i) cs ds

-- 4 and 5: records, from item i on
unfoldable pub record_entries : ℕ → ℕ → List (List ℕ) → List (List ℕ) → List Entry
record_entries g i [] ys = alone 5 g i ys
record_entries g i (x ∷ xs) [] = alone 5 g i (x ∷ xs)
record_entries g i (x ∷ xs) (y ∷ ys) = unless (same_bytes x y) (entry 4 g i (difference x y)) ++ record_entries g (suc i) xs ys

-- 3 to 5: a group that both files have
unfoldable pub group_entries : ℕ → Group → Group → List Entry
group_entries g p q =
    unless (same_own p q) (entry 3 g 0 0)
    ++ (channel_entries g 1 p.channels q.channels
    ++ record_entries g 0 p.records q.records)

-- 2: a group that one file alone has
unfoldable pub groups_alone : ℕ → List Group → List Entry
groups_alone g [] = []
groups_alone g (p ∷ ps) = entry 2 g 0 0 ∷ groups_alone (suc g) ps

-- groups, from group g on
unfoldable pub groups_entries : ℕ → List Group → List Group → List Entry
groups_entries g [] qs = groups_alone g qs
groups_entries g (p ∷ ps) [] = groups_alone g (p ∷ ps)
groups_entries g (p ∷ ps) (q ∷ qs) = group_entries g p q ++ groups_entries (suc g) ps qs

-- ---- the list

unfoldable pub differences : Reading → Reading → List Entry
differences r s = file_entries r s ++ groups_entries 0 r.groups s.groups

unfoldable pub list_length : Reading → Reading → ℕ
list_length r s = entry_size * length (differences r s)

unfoldable pub list_bytes : Reading → Reading → List ℕ
list_bytes r s = join (map entry_bytes (differences r s))
