-- The difference list has the entries that are due and no others.
-- Assumes nothing.
use Prim.Native.Nat.{ℕ, zero, suc, ◌+◌}
use mathlib.Core.Path.{◌≡◌, refl, sym, ◌∙◌, ap, subst}
use mathlib.Core.Logic.{◌↔◌, ◌⊎◌, inl, inr}
use mathlib.Core.Bool.{Bool, true, false, true≢false}
use mathlib.Core.List.Memᴰ
use mathlib.Core.List.{List, [], ◌∷◌, ◌++◌, Memᴰ}
use mathlib.Core.Option.{Option, none, some}
use native.Mathlib.Omega.{arith}
use lib.Dec.{eqb}
use lib.ListN.{get_elem?}
use borrow.Author.Tests.{eqb-true, eq-eqb}
use Rattle.spec.specs.Bytes.{All, same_bytes, difference}
use Rattle.spec.specs.Reading.{Body, Channel, Group, Reading}
use Rattle.spec.specs.Differences.{Entry, entry, unless, same_body, same_channel, same_own, same_header, alone, file_entries, channel_entries, record_entries, group_entries, groups_alone, groups_entries, differences}
use Rattle.spec.specs.Differing.{FileDue, OwnDue, ChannelDue, RecordDue, GroupDue, EntriesAreThoseDue, Before, by_group, by_kind, by_item, Ordered, ListIsDetermined}
use Rattle.spec.proofs.Answers.{both}
use Rattle.spec.proofs.Bytes.{same_refl, same_equal, difference_first, first_unique}
use Rattle.spec.proofs.Differing.{body_true, body_same, channel_true, channel_same}
use Rattle.spec.proofs.EntryOrder.{entries_are_ordered}

-- ---- a list with just the entries of which P holds

record Exactly (es : List Entry) (P : Entry → Type 0) : Type 0 where
  sound : (e : Entry) → Memᴰ e es → P e
  whole : (e : Entry) → P e → Memᴰ e es

exactly_as : {es : List Entry} (P Q : Entry → Type 0) → ((e : Entry) → P e ↔ Q e) → Exactly es P → Exactly es Q
exactly_as P Q f x = record { sound = λ e m. (f e).0 (x.sound e m); whole = λ e q. x.whole e ((f e).1 q) }

exactly_append : (xs ys : List Entry) (P Q : Entry → Type 0) → Exactly xs P → Exactly ys Q → Exactly (xs ++ ys) (λ e. P e ⊎ Q e)
exactly_append xs ys P Q x y = record { sound = sound; whole = whole }
  where
    sound : (e : Entry) → Memᴰ e (xs ++ ys) → P e ⊎ Q e
    sound e m = go (Memᴰ.append_cases xs m)
      where
        go : Memᴰ e xs ⊎ Memᴰ e ys → P e ⊎ Q e
        go (inl m) = inl (x.sound e m)
        go (inr m) = inr (y.sound e m)

    whole : (e : Entry) → P e ⊎ Q e → Memᴰ e (xs ++ ys)
    whole e (inl p) = Memᴰ.append_left ys (x.whole e p)
    whole e (inr q) = Memᴰ.append_right xs (y.whole e q)

-- a test that tells whether D holds, and the entry where it does not
exactly_unless : (t : Bool) (d : Entry) (D : Type 0) → (t ≡ true → D) → (D → t ≡ true) → Exactly (unless t d) (λ e. (D → ⊥) × (e ≡ d))
exactly_unless true d D f g = record { sound = λ e m. absurd (Memᴰ.not-nil m); whole = λ e p. absurd (p.0 (f refl)) }
exactly_unless false d D f g = record { sound = λ e m. ((λ h. true≢false (sym (g h))), Memᴰ.eq_of_singleton m); whole = λ e p. Memᴰ.head p.1 }

-- ---- item by item, numbered from i on

-- of a list that one file alone has, an entry d for each
abbrev Alone : {A : Type 0} → (ℕ → Entry) → ℕ → List A → Entry → Type 0
Alone d i xs e = (k : ℕ) × (get_elem? xs k ≡ none → ⊥) × (e ≡ d (i + k))

no_items : {A : Type 0} (d : ℕ → Entry) (i : ℕ) → Exactly [] (Alone {A = A} d i [])
no_items d i = record { sound = λ e m. absurd (Memᴰ.not-nil m); whole = λ e p. absurd (p.1 refl) }

alone_cons : {A : Type 0} (d : ℕ → Entry) (i : ℕ) (x : A) (xs : List A) (es : List Entry) → Exactly es (Alone d (suc i) xs) → Exactly (d i ∷ es) (Alone d i (x ∷ xs))
alone_cons d i x xs es a = record { sound = λ e m. sound e (Memᴰ.cases_cons m); whole = whole }
  where
    sound : (e : Entry) → (e ≡ d i) ⊎ Memᴰ e es → Alone d i (x ∷ xs) e
    sound e (inl h) = (0, (λ n. let z : ◌≡◌ {A = ℕ} 0 1 = cc in omega arith), h ∙ ap d (omega arith))
    sound e (inr m) =
        let (k, n, h) = a.sound e m in
        (suc k, n, h ∙ ap d (omega arith))

    whole : (e : Entry) → Alone d i (x ∷ xs) e → Memᴰ e (d i ∷ es)
    whole e (zero, n, h) = let q : i + 0 ≡ i = omega arith in Memᴰ.head (h ∙ ap d q)
    whole e (suc k, n, h) = Memᴰ.tail (a.whole e (k, n, h ∙ ap d (omega arith)))

-- of two lists: f of the number and of what stands there
module _ {A : Type 0} (f : ℕ → Option A → Option A → Entry → Type 0) where
  abbrev Items : ℕ → List A → List A → Entry → Type 0
  Items i xs ys e = (k : ℕ) × f (i + k) (get_elem? xs k) (get_elem? ys k) e

  items_cons : (i : ℕ) (x y : A) (xs ys : List A) (es fs : List Entry) → Exactly es (f i (some x) (some y)) → Exactly fs (Items (suc i) xs ys) → Exactly (es ++ fs) (Items i (x ∷ xs) (y ∷ ys))
  items_cons i x y xs ys es fs a b = record { sound = λ e m. sound e (Memᴰ.append_cases es m); whole = whole }
    where
      sound : (e : Entry) → Memᴰ e es ⊎ Memᴰ e fs → Items i (x ∷ xs) (y ∷ ys) e
      sound e (inl m) = (0, subst (λ n. f n (some x) (some y) e) (omega arith) (a.sound e m))
      sound e (inr m) =
          let (k, h) = b.sound e m in
          (suc k, subst (λ n. f n (get_elem? xs k) (get_elem? ys k) e) (omega arith) h)

      whole : (e : Entry) → Items i (x ∷ xs) (y ∷ ys) e → Memᴰ e (es ++ fs)
      whole e (zero, h) = Memᴰ.append_left fs (a.whole e (subst (λ n. f n (some x) (some y) e) (omega arith) h))
      whole e (suc k, h) = Memᴰ.append_right es (b.whole e (k, subst (λ n. f n (get_elem? xs k) (get_elem? ys k) e) (omega arith) h))

  -- the number in another form
  items_as : (i : ℕ) (h : ℕ → ℕ) (xs ys : List A) (es : List Entry) → ((k : ℕ) → i + k ≡ h k) → Exactly es (Items i xs ys) → Exactly es (λ e. (k : ℕ) × f (h k) (get_elem? xs k) (get_elem? ys k) e)
  items_as i h xs ys es same a =
      exactly_as (Items i xs ys) (λ e. (k : ℕ) × f (h k) (get_elem? xs k) (get_elem? ys k) e)
      (λ e. (λ p. (p.0, subst (λ n. f n (get_elem? xs p.0) (get_elem? ys p.0) e) (same p.0) p.1), λ p. (p.0, subst (λ n. f n (get_elem? xs p.0) (get_elem? ys p.0) e) (sym (same p.0)) p.1)))
      a

  -- where one of them is empty
  module _ (d : ℕ → Entry) (i : ℕ) (xs : List A) (es : List Entry) (a : Exactly es (Alone d i xs)) where
    items_first : ((n : ℕ) (x : Option A) (e : Entry) → ((x ≡ none → ⊥) × (e ≡ d n)) ↔ f n x none e) → Exactly es (Items i xs [])
    items_first is =
        exactly_as (Alone d i xs) (Items i xs [])
        (λ e. (λ p. (p.0, (is (i + p.0) (get_elem? xs p.0) e).0 (p.1, p.2)), λ p. let q = (is (i + p.0) (get_elem? xs p.0) e).1 p.1 in (p.0, q.0, q.1)))
        a

    items_second : ((n : ℕ) (x : Option A) (e : Entry) → ((x ≡ none → ⊥) × (e ≡ d n)) ↔ f n none x e) → Exactly es (Items i [] xs)
    items_second is =
        exactly_as (Alone d i xs) (Items i [] xs)
        (λ e. (λ p. (p.0, (is (i + p.0) (get_elem? xs p.0) e).0 (p.1, p.2)), λ p. let q = (is (i + p.0) (get_elem? xs p.0) e).1 p.1 in (p.0, q.0, q.1)))
        a

alone_due : {A : Type 0} (kind g i : ℕ) (xs : List A) → Exactly (alone kind g i xs) (Alone (λ n. entry kind g n 0) i xs)
unfolding alone
alone_due kind g i [] = no_items (λ n. entry kind g n 0) i
alone_due kind g i (x ∷ xs) = alone_cons (λ n. entry kind g n 0) i x xs (alone kind g (suc i) xs) (alone_due kind g (suc i) xs)

groups_alone_due : (g : ℕ) (ps : List Group) → Exactly (groups_alone g ps) (Alone (λ n. entry 2 n 0 0) g ps)
unfolding groups_alone
groups_alone_due g [] = no_items (λ n. entry 2 n 0 0) g
groups_alone_due g (p ∷ ps) = alone_cons (λ n. entry 2 n 0 0) g p ps (groups_alone (suc g) ps) (groups_alone_due (suc g) ps)

some_there : {A : Type 0} (x : A) → some x ≡ none → ⊥
some_there x q = let z : ◌≡◌ {A = ℕ} 0 1 = cc in omega arith

-- ---- the tests, of parts that are equal

bytes_equal : (x y : List ℕ) → x ≡ y → same_bytes x y ≡ true
bytes_equal x y e = subst (λ (z : List ℕ). same_bytes x z ≡ true) e (same_refl x)

body_equal : (x y : Body) → x ≡ y → same_body x y ≡ true
body_equal x y e = subst (λ (z : Body). same_body x z ≡ true) e (body_same x)

channel_equal : (c d : Channel) → some c ≡ some d → same_channel c d ≡ true
channel_equal c d e = let q : c ≡ d = cc in subst (λ (z : Channel). same_channel c z ≡ true) q (channel_same c)

-- ---- channels

channels_due : (g i : ℕ) (cs ds : List Channel) → Exactly (channel_entries g i cs ds) (Items (ChannelDue g) i cs ds)
unfolding channel_entries
channels_due g i [] ds =
    items_second (ChannelDue g) (λ n. entry 3 g n 0) i ds (alone 3 g i ds) (alone_due 3 g i ds) (λ n x e. (λ p. ((λ q. p.0 (sym q)), p.1), λ p. ((λ q. p.0 (sym q)), p.1)))
channels_due g i (c ∷ cs) [] =
    items_first (ChannelDue g) (λ n. entry 3 g n 0) i (c ∷ cs) (alone 3 g i (c ∷ cs)) (alone_due 3 g i (c ∷ cs)) (λ n x e. (λ p. p, λ p. p))
channels_due g i (c ∷ cs) (d ∷ ds) =
    items_cons (ChannelDue g) i c d cs ds (unless (same_channel c d) (entry 3 g i 0)) (channel_entries g (suc i) cs ds)
    (exactly_unless (same_channel c d) (entry 3 g i 0) (some c ≡ some d) (λ e. ap some (channel_true c d e)) (channel_equal c d))
    (channels_due g (suc i) cs ds)

-- ---- records

first_record : (g n : ℕ) (x : Option (List ℕ)) (e : Entry) → ((x ≡ none → ⊥) × (e ≡ entry 5 g n 0)) ↔ RecordDue g n x none e
first_record g n none e = (λ p. p.0 refl, λ z. absurd z)
first_record g n (some x) e = (λ p. p.1, λ h. (some_there x, h))

second_record : (g n : ℕ) (y : Option (List ℕ)) (e : Entry) → ((y ≡ none → ⊥) × (e ≡ entry 5 g n 0)) ↔ RecordDue g n none y e
second_record g n none e = (λ p. p.0 refl, λ z. absurd z)
second_record g n (some y) e = (λ p. p.1, λ h. (some_there y, h))

record_due : (g i : ℕ) (x y : List ℕ) → Exactly (unless (same_bytes x y) (entry 4 g i (difference x y))) (RecordDue g i (some x) (some y))
record_due g i x y =
    exactly_as (λ e. (x ≡ y → ⊥) × (e ≡ entry 4 g i (difference x y))) (RecordDue g i (some x) (some y))
    (λ e. (λ p. (p.0, difference x y, difference_first x y, p.1), λ p. (p.0, p.3 ∙ ap (entry 4 g i) (first_unique x y p.1 (difference x y) p.2 (difference_first x y)))))
    (exactly_unless (same_bytes x y) (entry 4 g i (difference x y)) (x ≡ y) (same_equal x y) (bytes_equal x y))

records_due_lem : (g i : ℕ) (xs ys : List (List ℕ)) → Exactly (record_entries g i xs ys) (Items (RecordDue g) i xs ys)
unfolding record_entries
records_due_lem g i [] ys = items_second (RecordDue g) (λ n. entry 5 g n 0) i ys (alone 5 g i ys) (alone_due 5 g i ys) (second_record g)
records_due_lem g i (x ∷ xs) [] =
    items_first (RecordDue g) (λ n. entry 5 g n 0) i (x ∷ xs) (alone 5 g i (x ∷ xs)) (alone_due 5 g i (x ∷ xs)) (first_record g)
records_due_lem g i (x ∷ xs) (y ∷ ys) =
    items_cons (RecordDue g) i x y xs ys (unless (same_bytes x y) (entry 4 g i (difference x y))) (record_entries g (suc i) xs ys) (record_due g i x y) (records_due_lem g (suc i) xs ys)

-- ---- groups

own_due : (g : ℕ) (p q : Group) → Exactly (unless (same_own p q) (entry 3 g 0 0)) (OwnDue g p q)
unfolding same_own
own_due g p q =
    exactly_unless (same_own p q) (entry 3 g 0 0) ((p.record_size ≡ q.record_size) × (p.comment ≡ q.comment))
    (λ e. let h = both (eqb p.record_size q.record_size) (same_body p.comment q.comment) e in (eqb-true p.record_size q.record_size h.0, body_true p.comment q.comment h.1))
    (λ h. rw (eq-eqb p.record_size q.record_size h.0, body_equal p.comment q.comment h.1))

group_due : (g : ℕ) (p q : Group) → Exactly (group_entries g p q) (GroupDue g (some p) (some q))
unfolding group_entries
group_due g p q =
    exactly_append _ _ (OwnDue g p q) (λ e. Channels e ⊎ Rows e) (own_due g p q)
    (exactly_append _ _ Channels Rows
    (items_as (ChannelDue g) 1 (λ c. c + 1) p.channels q.channels _ (λ c. omega arith) (channels_due g 1 p.channels q.channels))
    (items_as (RecordDue g) 0 (λ i. i) p.records q.records _ (λ i. omega arith) (records_due_lem g 0 p.records q.records)))
  where
    Channels : Entry → Type 0
    Channels e = (c : ℕ) × ChannelDue g (c + 1) (get_elem? p.channels c) (get_elem? q.channels c) e

    Rows : Entry → Type 0
    Rows e = (i : ℕ) × RecordDue g i (get_elem? p.records i) (get_elem? q.records i) e

first_group_lem : (n : ℕ) (x : Option Group) (e : Entry) → ((x ≡ none → ⊥) × (e ≡ entry 2 n 0 0)) ↔ GroupDue n x none e
first_group_lem n none e = (λ p. p.0 refl, λ z. absurd z)
first_group_lem n (some x) e = (λ p. p.1, λ h. (some_there x, h))

second_group : (n : ℕ) (y : Option Group) (e : Entry) → ((y ≡ none → ⊥) × (e ≡ entry 2 n 0 0)) ↔ GroupDue n none y e
second_group n none e = (λ p. p.0 refl, λ z. absurd z)
second_group n (some y) e = (λ p. p.1, λ h. (some_there y, h))

groups_due : (g : ℕ) (ps qs : List Group) → Exactly (groups_entries g ps qs) (Items GroupDue g ps qs)
unfolding groups_entries
groups_due g [] qs = items_second GroupDue (λ n. entry 2 n 0 0) g qs (groups_alone g qs) (groups_alone_due g qs) second_group
groups_due g (p ∷ ps) [] =
    items_first GroupDue (λ n. entry 2 n 0 0) g (p ∷ ps) (groups_alone g (p ∷ ps)) (groups_alone_due g (p ∷ ps)) first_group_lem
groups_due g (p ∷ ps) (q ∷ qs) = items_cons GroupDue g p q ps qs (group_entries g p q) (groups_entries (suc g) ps qs) (group_due g p q) (groups_due (suc g) ps qs)

-- ---- the file, and the list

file_due : (r s : Reading) → Exactly (file_entries r s) (FileDue r s)
unfolding file_entries same_header
file_due r s =
    exactly_append _ _ _ _ (exactly_unless (same_bytes r.ident s.ident) (entry 1 0 0 0) (r.ident ≡ s.ident) (same_equal r.ident s.ident) (bytes_equal r.ident s.ident))
    (exactly_append _ _ _ _ (exactly_unless (same_header r s) (entry 1 0 1 0) ((r.plain ≡ s.plain) × (r.later ≡ s.later)) header_true header_equal)
    (exactly_append _ _ _ _ (exactly_unless (same_body r.comment s.comment) (entry 1 0 2 0) (r.comment ≡ s.comment) (body_true r.comment s.comment) (body_equal r.comment s.comment))
    (exactly_unless (same_body r.program s.program) (entry 1 0 3 0) (r.program ≡ s.program) (body_true r.program s.program) (body_equal r.program s.program))))
  where
    header_true : same_header r s ≡ true → (r.plain ≡ s.plain) × (r.later ≡ s.later)
    header_true e =
        let h = both (same_bytes r.plain s.plain) (same_bytes r.later s.later) e in
        (same_equal r.plain s.plain h.0, same_equal r.later s.later h.1)

    header_equal : (r.plain ≡ s.plain) × (r.later ≡ s.later) → same_header r s ≡ true
    header_equal h = rw (bytes_equal r.plain s.plain h.0, bytes_equal r.later s.later h.1)

pub entries_are_those_due : EntriesAreThoseDue
unfolding differences
entries_are_those_due r s e =
    let x = exactly_append (file_entries r s) (groups_entries 0 r.groups s.groups) (FileDue r s) (λ e. (g : ℕ) × GroupDue g (get_elem? r.groups g) (get_elem? s.groups g) e) (file_due r s)
    (items_as GroupDue 0 (λ g. g) r.groups s.groups _ (λ g. omega arith) (groups_due 0 r.groups s.groups)) in
    (x.sound e, x.whole e)

-- ---- two lists in order that have the same entries

in_all : (P : Entry → Type 0) (es : List Entry) (e : Entry) → All P es → Memᴰ e es → P e
in_all P [] e a m = absurd (Memᴰ.not-nil m)
in_all P (d ∷ es) e a m = go (Memᴰ.cases_cons m) (in_all P es e a.1)
  where
    go : (e ≡ d) ⊎ Memᴰ e es → (Memᴰ e es → P e) → P e
    go (inl h) f = subst P (sym h) a.0
    go (inr m) f = f m

not_both : (d e : Entry) → Before d e → Before e d → ⊥
not_both d e (by_group h) (by_group k) = omega arith
not_both d e (by_group h) (by_kind k k') = omega arith
not_both d e (by_group h) (by_item k k' k'') = omega arith
not_both d e (by_kind h h') (by_group k) = omega arith
not_both d e (by_kind h h') (by_kind k k') = omega arith
not_both d e (by_kind h h') (by_item k k' k'') = omega arith
not_both d e (by_item h h' h'') (by_group k) = omega arith
not_both d e (by_item h h' h'') (by_kind k k') = omega arith
not_both d e (by_item h h' h'') (by_item k k' k'') = omega arith

-- what stands behind the first of one list stands behind that of the other
behind : (x y : Entry) (xs ys : List Entry) → x ≡ y → All (Before x) xs → ((e : Entry) → Memᴰ e (x ∷ xs) → Memᴰ e (y ∷ ys)) → (e : Entry) → Memᴰ e xs → Memᴰ e ys
behind x y xs ys q a f e m = go (Memᴰ.cases_cons (f e (Memᴰ.tail m)))
  where
    go : (e ≡ y) ⊎ Memᴰ e ys → Memᴰ e ys
    go (inl h) = let b : Before x x = subst (Before x) (h ∙ sym q) (in_all (Before x) xs e a m) in absurd (not_both x x b b)
    go (inr n) = n

same_list : (xs ys : List Entry) → Ordered xs → Ordered ys → ((e : Entry) → Memᴰ e xs ↔ Memᴰ e ys) → xs ≡ ys
same_list [] [] o p f = refl
same_list [] (y ∷ ys) o p f = absurd (Memᴰ.not-nil ((f y).1 (Memᴰ.head refl)))
same_list (x ∷ xs) [] o p f = absurd (Memᴰ.not-nil ((f x).0 (Memᴰ.head refl)))
same_list (x ∷ xs) (y ∷ ys) o p f =
    let q = first (Memᴰ.cases_cons ((f x).0 (Memᴰ.head refl))) (Memᴰ.cases_cons ((f y).1 (Memᴰ.head refl))) in
    let t = same_list xs ys o.1 p.1 (λ e. (behind x y xs ys q o.0 (λ d. (f d).0) e, behind y x ys xs (sym q) p.0 (λ d. (f d).1) e)) in
    cc
  where
    first : (x ≡ y) ⊎ Memᴰ x ys → (y ≡ x) ⊎ Memᴰ y xs → x ≡ y
    first (inl h) n = h
    first (inr m) (inl h) = sym h
    first (inr m) (inr n) = absurd (not_both x y (in_all (Before x) xs y o.0 n) (in_all (Before y) ys x p.0 m))

pub list_is_determined : ListIsDetermined
list_is_determined r s es o f =
    same_list es (differences r s) o (entries_are_ordered r s)
    (λ e. (λ m. (entries_are_those_due r s e).1 ((f e).0 m), λ m. (f e).1 ((entries_are_those_due r s e).0 m)))
