-- The proofs of specs/Differing.antt; those of the order, of the entries that are due and of numbers that fit stand in EntryOrder.antt, Due.antt and EntryFits.antt.
-- Assumes nothing.
use Prim.Native.Nat.{ℕ, suc, ◌*◌, ◌≤◌}
use mathlib.Core.Path.{◌≡◌, refl, sym, ◌∙◌, ap, subst}
use mathlib.Core.Bool.{Bool, true, false, true≢false}
use mathlib.Core.List.{List, [], ◌∷◌, ◌++◌, map}
use mathlib.Core.Option.{none, some}
use native.Mathlib.Omega.{arith}
use lib.ListN.{length, length-append}
use borrow.Author.Tests.{eqb-true, eq-eqb, leb-true, le-leb, lt-leb}
use Rattle.spec.specs.Bytes.{Bytes, bytes_of, join}
use Rattle.spec.specs.Answer.{Answer, refused, accepted}
use Rattle.spec.specs.Reading.{Body, Channel, Group, Reading}
use Rattle.spec.specs.Walk.{reads, most}
use Rattle.spec.specs.Canonical.{copy_length, canonical_copy}
use Rattle.spec.specs.Differences.{Entry, entry_bytes, unless, same_body, same_channel, same_own, same_header, alone, file_entries, channel_entries, record_entries, group_entries, groups_alone, groups_entries, differences, list_length, list_bytes}
use Rattle.spec.specs.Call.{copying, copied, copy_outcome, Pair, comparing, compared, compare_outcome}
use Rattle.spec.specs.Demand3.{Copyable, Room}
use Rattle.spec.specs.Differing.{DifferenceIsTheFirst, NoDifferenceExactlyWhenEqual, ListIsSymmetric, ListHasTheLength, ListIsBytes, CompareSucceeds, CompareNeedsRoom, ListIsEmptyExactlyWhenReadingsAreEqual, NoDifferenceExactlyWhenCopiesAreEqual, ListIsEmptyExactlyWhenCopiesAreEqual}
use Rattle.spec.proofs.Answers.{step, pass, stop, fail, both, Gives, gives, bind, test}
use Rattle.spec.proofs.Bytes.{eqb_turned, same_refl, same_equal, same_turned, difference_turned, difference_first}
use Rattle.spec.proofs.Opens.{bytes_append, bytes_join, bytes_of_lem}
use Rattle.spec.proofs.Demand3.{accepted_reading_is_well_formed, canonical_copy_reads_back, copies_equal_exactly_when_readings_are}

pub difference_is_the_first : DifferenceIsTheFirst
difference_is_the_first = difference_first

-- ---- the tests tell whether two parts are equal

pub body_true : (x y : Body) → same_body x y ≡ true → x ≡ y
body_true none none e = refl
body_true none (some y) e = absurd (true≢false (sym e))
body_true (some x) none e = absurd (true≢false (sym e))
body_true (some x) (some y) e = ap some (same_equal x y e)

pub body_same : (x : Body) → same_body x x ≡ true
body_same none = refl
body_same (some x) = same_refl x

pub channel_true : (c d : Channel) → same_channel c d ≡ true → c ≡ d
unfolding same_channel
channel_true c d e =
    let h₁ = both _ _ e in
    let h₂ = both _ _ h₁.0 in
    let h₃ = both _ _ h₂.0 in
    let h₄ = both _ _ h₃.0 in
    let h₅ = both _ _ h₄.0 in
    let h₆ = both _ _ h₅.0 in
    let m = same_equal c.fields.main d.fields.main h₆.0 in
    let a = same_equal c.fields.added d.fields.added h₆.1 in
    let p₁ = body_true c.conversion d.conversion h₅.1 in
    let p₂ = body_true c.extension d.extension h₄.1 in
    let p₃ = body_true c.comment d.comment h₃.1 in
    let p₄ = body_true c.long_name d.long_name h₂.1 in
    let p₅ = body_true c.display_name d.display_name h₁.1 in
    λ i.
    record {
      fields = record { main = m i; added = a i };
      conversion = p₁ i;
      extension = p₂ i;
      comment = p₃ i;
      long_name = p₄ i;
      display_name = p₅ i;
    }

pub channel_same : (c : Channel) → same_channel c c ≡ true
unfolding same_channel
channel_same c = simp (same_refl, body_same)

-- ---- an empty list of entries

left_empty : {A : Type 0} (xs ys : List A) → xs ++ ys ≡ [] → (xs ≡ []) × (ys ≡ [])
left_empty [] ys e = (refl, e)
left_empty (x ∷ xs) ys e = let z : ◌≡◌ {A = ℕ} 0 1 = cc in absurd (omega arith)

unless_empty : (t : Bool) (e : Entry) → unless t e ≡ [] → t ≡ true
unless_empty true e h = refl
unless_empty false e h = let z : ◌≡◌ {A = ℕ} 0 1 = cc in absurd (omega arith)

alone_empty : {A : Type 0} (kind g i : ℕ) (xs : List A) → alone kind g i xs ≡ [] → xs ≡ []
unfolding alone
alone_empty kind g i [] e = refl
alone_empty kind g i (x ∷ xs) e = let z : ◌≡◌ {A = ℕ} 0 1 = cc in absurd (omega arith)

groups_alone_empty : (g : ℕ) (ps : List Group) → groups_alone g ps ≡ [] → ps ≡ []
unfolding groups_alone
groups_alone_empty g [] e = refl
groups_alone_empty g (p ∷ ps) e = let z : ◌≡◌ {A = ℕ} 0 1 = cc in absurd (omega arith)

channels_equal : (g i : ℕ) (cs ds : List Channel) → channel_entries g i cs ds ≡ [] → cs ≡ ds
unfolding channel_entries
channels_equal g i [] ds e = sym (alone_empty 3 g i ds e)
channels_equal g i (c ∷ cs) [] e = alone_empty 3 g i (c ∷ cs) e
channels_equal g i (c ∷ cs) (d ∷ ds) e =
    let h = left_empty _ _ e in
    let p = channel_true c d (unless_empty _ _ h.0) in
    let q = channels_equal g (suc i) cs ds h.1 in
    cc

records_equal : (g i : ℕ) (xs ys : List (List ℕ)) → record_entries g i xs ys ≡ [] → xs ≡ ys
unfolding record_entries
records_equal g i [] ys e = sym (alone_empty 5 g i ys e)
records_equal g i (x ∷ xs) [] e = alone_empty 5 g i (x ∷ xs) e
records_equal g i (x ∷ xs) (y ∷ ys) e =
    let h = left_empty _ _ e in
    let p = same_equal x y (unless_empty _ _ h.0) in
    let q = records_equal g (suc i) xs ys h.1 in
    cc

group_equal : (g : ℕ) (p q : Group) → group_entries g p q ≡ [] → p ≡ q
unfolding group_entries same_own
group_equal g p q e =
    let h = left_empty _ _ e in
    let k = left_empty _ _ h.1 in
    let o = both _ _ (unless_empty _ _ h.0) in
    let size = eqb-true p.record_size q.record_size o.0 in
    let comment = body_true p.comment q.comment o.1 in
    let channels = channels_equal g 1 p.channels q.channels k.0 in
    let records = records_equal g 0 p.records q.records k.1 in
    λ i.
    record { record_size = size i; comment = comment i; channels = channels i; records = records i }

groups_equal : (g : ℕ) (ps qs : List Group) → groups_entries g ps qs ≡ [] → ps ≡ qs
unfolding groups_entries
groups_equal g [] qs e = sym (groups_alone_empty g qs e)
groups_equal g (p ∷ ps) [] e = groups_alone_empty g (p ∷ ps) e
groups_equal g (p ∷ ps) (q ∷ qs) e =
    let h = left_empty _ _ e in
    let x = group_equal g p q h.0 in
    let y = groups_equal (suc g) ps qs h.1 in
    cc

readings_equal : (r s : Reading) → differences r s ≡ [] → r ≡ s
unfolding differences file_entries same_header
readings_equal r s e =
    let h = left_empty _ _ e in
    let k₁ = left_empty _ _ h.0 in
    let k₂ = left_empty _ _ k₁.1 in
    let k₃ = left_empty _ _ k₂.1 in
    let hd = both _ _ (unless_empty _ _ k₂.0) in
    let ident = same_equal r.ident s.ident (unless_empty _ _ k₁.0) in
    let plain = same_equal r.plain s.plain hd.0 in
    let later = same_equal r.later s.later hd.1 in
    let comment = body_true r.comment s.comment (unless_empty _ _ k₃.0) in
    let program = body_true r.program s.program (unless_empty _ _ k₃.1) in
    let groups = groups_equal 0 r.groups s.groups h.1 in
    λ i.
    record { ident = ident i; plain = plain i; later = later i; comment = comment i; program = program i; groups = groups i }

-- ---- and of a reading with itself

channels_same : (g i : ℕ) (cs : List Channel) → channel_entries g i cs cs ≡ []
unfolding channel_entries alone
channels_same g i [] = refl
channels_same g i (c ∷ cs) = rw (channel_same c) (channels_same g (suc i) cs)

records_same : (g i : ℕ) (xs : List (List ℕ)) → record_entries g i xs xs ≡ []
unfolding record_entries alone
records_same g i [] = refl
records_same g i (x ∷ xs) = rw (same_refl x) (records_same g (suc i) xs)

group_same : (g : ℕ) (p : Group) → group_entries g p p ≡ []
unfolding group_entries same_own
group_same g p =
    rw (eq-eqb p.record_size p.record_size refl, body_same p.comment, channels_same g 1 p.channels) (records_same g 0 p.records)

groups_same : (g : ℕ) (ps : List Group) → groups_entries g ps ps ≡ []
unfolding groups_entries groups_alone
groups_same g [] = refl
groups_same g (p ∷ ps) = rw (group_same g p) (groups_same (suc g) ps)

none_differs : (r : Reading) → differences r r ≡ []
unfolding differences file_entries same_header
none_differs r =
    rw (same_refl r.ident, same_refl r.plain, same_refl r.later, body_same r.comment, body_same r.program) (groups_same 0 r.groups)

pub no_difference_exactly_when_equal : NoDifferenceExactlyWhenEqual
no_difference_exactly_when_equal r s = (readings_equal r s, λ e. subst (λ (x : Reading). differences r x ≡ []) e (none_differs r))

-- ---- whichever file is the first

body_turned : (x y : Body) → same_body x y ≡ same_body y x
body_turned none none = refl
body_turned none (some y) = refl
body_turned (some x) none = refl
body_turned (some x) (some y) = same_turned x y

channel_turned : (c d : Channel) → same_channel c d ≡ same_channel d c
unfolding same_channel
channel_turned c d =
    rw (
      same_turned c.fields.main d.fields.main,
      same_turned c.fields.added d.fields.added,
      body_turned c.conversion d.conversion,
      body_turned c.extension d.extension,
      body_turned c.comment d.comment,
      body_turned c.long_name d.long_name,
      body_turned c.display_name d.display_name,
    )

channels_turned : (g i : ℕ) (cs ds : List Channel) → channel_entries g i cs ds ≡ channel_entries g i ds cs
unfolding channel_entries
channels_turned g i [] [] = refl
channels_turned g i [] (d ∷ ds) = refl
channels_turned g i (c ∷ cs) [] = refl
channels_turned g i (c ∷ cs) (d ∷ ds) = rw (channel_turned c d, channels_turned g (suc i) cs ds)

records_turned : (g i : ℕ) (xs ys : List (List ℕ)) → record_entries g i xs ys ≡ record_entries g i ys xs
unfolding record_entries
records_turned g i [] [] = refl
records_turned g i [] (y ∷ ys) = refl
records_turned g i (x ∷ xs) [] = refl
records_turned g i (x ∷ xs) (y ∷ ys) = rw (same_turned x y, difference_turned x y, records_turned g (suc i) xs ys)

group_turned : (g : ℕ) (p q : Group) → group_entries g p q ≡ group_entries g q p
unfolding group_entries same_own
group_turned g p q =
    rw (
      eqb_turned p.record_size q.record_size,
      body_turned p.comment q.comment,
      channels_turned g 1 p.channels q.channels,
      records_turned g 0 p.records q.records,
    )

groups_turned : (g : ℕ) (ps qs : List Group) → groups_entries g ps qs ≡ groups_entries g qs ps
unfolding groups_entries
groups_turned g [] [] = refl
groups_turned g [] (q ∷ qs) = refl
groups_turned g (p ∷ ps) [] = refl
groups_turned g (p ∷ ps) (q ∷ qs) = rw (group_turned g p q, groups_turned (suc g) ps qs)

pub list_is_symmetric : ListIsSymmetric
unfolding differences file_entries same_header
list_is_symmetric r s =
    rw (
      same_turned r.ident s.ident,
      same_turned r.plain s.plain,
      same_turned r.later s.later,
      body_turned r.comment s.comment,
      body_turned r.program s.program,
      groups_turned 0 r.groups s.groups,
    )

-- ---- 16 bytes an entry

length_entries : (es : List Entry) → length (join (map entry_bytes es)) ≡ 16 * length es
length_entries [] = refl
length_entries (e ∷ es) = length-append (entry_bytes e) (join (map entry_bytes es)) ∙ omega (arith, length_entries es)

pub list_has_the_length : ListHasTheLength
unfolding list_bytes list_length
list_has_the_length r s = length_entries (differences r s)

-- ---- bytes

entry_bytes_lem : (e : Entry) → Bytes (entry_bytes e)
entry_bytes_lem e =
    bytes_join (bytes_of 2 e.kind ∷ bytes_of 2 0 ∷ bytes_of 4 e.group ∷ bytes_of 4 e.item ∷ bytes_of 4 e.byte ∷ [])
    (bytes_of_lem 2 e.kind, (bytes_of_lem 2 0, (bytes_of_lem 4 e.group, (bytes_of_lem 4 e.item, (bytes_of_lem 4 e.byte, tt)))))

entries_bytes_lem : (es : List Entry) → Bytes (join (map entry_bytes es))
entries_bytes_lem [] = tt
entries_bytes_lem (e ∷ es) = bytes_append (entry_bytes e) (join (map entry_bytes es)) (entry_bytes_lem e) (entries_bytes_lem es)

pub list_is_bytes : ListIsBytes
unfolding list_bytes
list_is_bytes r s = entries_bytes_lem (differences r s)

-- ---- the call

pub compare_succeeds : CompareSucceeds
unfolding compare_outcome comparing
compare_succeeds a b r s p q small out fits =
    ap (λ x. compared x out)
    (step _ p
    (step _ q
    (step _ (pass _ _ _ (le-leb _ _ small))
    (step _ (pass _ _ _ (le-leb _ _ fits))
    refl))))

pub compare_needs_room : CompareNeedsRoom
unfolding compare_outcome comparing
compare_needs_room a b r s p q small out short =
    ap (λ x. compared x out)
    (step _ p
    (step _ q
    (step _ (pass _ _ _ (le-leb _ _ small))
    (stop _ (fail _ _ _ (lt-leb _ _ short))))))

no_entries : (es : List Entry) → 16 * length es ≡ 0 → es ≡ []
no_entries [] e = refl
no_entries (x ∷ es) e = absurd (omega arith)

-- what is compared are the images' own readings
compare_reads : (a b : List ℕ) (n : ℕ) → Gives (comparing a b n) (λ x. (reads a ≡ accepted x.first) × (reads b ≡ accepted x.second))
unfolding comparing
compare_reads a b n =
    bind {P = λ r. reads a ≡ accepted r} _ (record { given = λ r e. e }) λ r p.
    bind {P = λ s. reads b ≡ accepted s} _ (record { given = λ s e. e }) λ s q.
    bind _ (test _ _ _) λ _ _.
    bind _ (test _ _ _) λ _ _.
    gives _ (p, q)

module _ (a b : List ℕ) (r s : Reading) (p : reads a ≡ accepted r) (q : reads b ≡ accepted s) (out : List ℕ) where
  empty_then : (compare_outcome a b out).given.value ≡ some 0 → list_length r s ≡ 0
  unfolding compare_outcome
  empty_then e = go (comparing a b (length out)) refl e
    where
      go : (m : Answer Pair) → comparing a b (length out) ≡ m → (compared m out).given.value ≡ some 0 → list_length r s ≡ 0
      go (refused n k) o e = let z : ◌≡◌ {A = ℕ} 0 1 = cc in absurd (omega arith)
      go (accepted x) o e =
          let own = (compare_reads a b (length out)).given x o in
          let p' = own.0 in
          let q' = own.1 in
          cc

  then_empty : list_length r s ≡ 0 → (compare_outcome a b out).given.value ≡ some 0
  then_empty e = ap (λ o. o.given.value) (compare_succeeds a b r s p q (omega arith) out (omega arith)) ∙ ap some e

pub list_is_empty_exactly_when_readings_are_equal : ListIsEmptyExactlyWhenReadingsAreEqual
unfolding list_length
list_is_empty_exactly_when_readings_are_equal a b r s p q out = (
  λ e. (no_difference_exactly_when_equal r s).0 (no_entries (differences r s) (empty_then a b r s p q out e)),
  λ e. then_empty a b r s p q out (ap (λ es. 16 * length es) ((no_difference_exactly_when_equal r s).1 e)),
)

-- ---- with demand 3

pub no_difference_exactly_when_copies_are_equal : NoDifferenceExactlyWhenCopiesAreEqual
no_difference_exactly_when_copies_are_equal a b r s c d =
    let x : reads (canonical_copy r) ≡ accepted r = canonical_copy_reads_back r (accepted_reading_is_well_formed a r c.bytes c.reading) c.within in
    let y : reads (canonical_copy s) ≡ accepted s = canonical_copy_reads_back s (accepted_reading_is_well_formed b s d.bytes d.reading) d.within in
    let equal = no_difference_exactly_when_equal r s in
    (λ e. ap canonical_copy (equal.0 e), λ e. equal.1 (let z : accepted r ≡ accepted s = sym x ∙ ap reads e ∙ y in cc))

-- a copy that is made has a reading, and the limit and the output have room for it
copy_fits : (a : List ℕ) (n : ℕ) → Gives (copying a n) (λ r. (reads a ≡ accepted r) × (copy_length r ≤ most) × (copy_length r ≤ n))
unfolding copying
copy_fits a n =
    bind {P = λ r. reads a ≡ accepted r} _ (record { given = λ r e. e }) λ r e.
    bind _ (test _ _ _) λ _ small.
    bind _ (test _ _ _) λ _ room.
    gives _ (e, leb-true _ _ small, leb-true _ _ room)

copy_made : (a m : List ℕ) (i : ℕ) → Bytes a → (copy_outcome a m).given.value ≡ some i → (r : Reading) × Copyable a r × Room r m
unfolding copy_outcome
copy_made a m i bytes e = go (copying a (length m)) refl e
  where
    go : (c : Answer Reading) → copying a (length m) ≡ c → (copied c m).given.value ≡ some i → (r : Reading) × Copyable a r × Room r m
    go (refused n k) o e = let z : ◌≡◌ {A = ℕ} 0 1 = cc in absurd (omega arith)
    go (accepted r) o e =
        let (reading, within, room) = (copy_fits a (length m)).given r o in
        (r, record { bytes = bytes; reading = reading; within = within }, room)

pub list_is_empty_exactly_when_copies_are_equal : ListIsEmptyExactlyWhenCopiesAreEqual
list_is_empty_exactly_when_copies_are_equal a b m n out i j bytes bytes' p q =
    let (r, c, room) = copy_made a m i bytes p in
    let (s, d, room') = copy_made b n j bytes' q in
    let list = list_is_empty_exactly_when_readings_are_equal a b r s c.reading d.reading out in
    let copies = copies_equal_exactly_when_readings_are a b r s c d m n room room' in
    (λ e. copies.1 (list.0 e), λ e. list.1 (copies.0 e))
