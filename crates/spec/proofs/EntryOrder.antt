-- The entries of the difference list are in order, each before all that follow.
-- Assumes nothing.
use Prim.Native.Nat.{ℕ, suc, ◌≤◌, ◌<◌}
use mathlib.Core.Path.{◌≡◌, refl}
use mathlib.Core.Bool.{Bool, true, false}
use mathlib.Core.List.{List, [], ◌∷◌, ◌++◌}
use native.Mathlib.Omega.{arith}
use lib.Dec.{eqb}
use borrow.Author.Tests.{eqb-true, eqb-false}
use Rattle.spec.specs.Bytes.{All, same_bytes}
use Rattle.spec.specs.Reading.{Channel, Group, Reading}
use Rattle.spec.specs.Differences.{Entry, entry, unless, same_body, same_channel, same_own, same_header, alone, file_entries, channel_entries, record_entries, group_entries, groups_alone, groups_entries, differences}
use Rattle.spec.specs.Differing.{Before, by_group, by_kind, by_item, Ordered, EntriesAreOrdered}

-- ---- two lists, one after the other

all_append : {A : Type 0} (P : A → Type 0) (xs ys : List A) → All P xs → All P ys → All P (xs ++ ys)
all_append P [] ys a b = b
all_append P (x ∷ xs) ys a b = (a.0, all_append P xs ys a.1 b)

all_weaker : {A : Type 0} (P Q : A → Type 0) (xs : List A) → ((x : A) → P x → Q x) → All P xs → All Q xs
all_weaker P Q [] f a = tt
all_weaker P Q (x ∷ xs) f a = (f x a.0, all_weaker P Q xs f a.1)

-- P of the first list, Q of the second, and whatever has P comes before whatever has Q
ordered_append : (P Q : Entry → Type 0) (xs ys : List Entry) → ((d e : Entry) → P d → Q e → Before d e) → Ordered xs → All P xs → Ordered ys → All Q ys → Ordered (xs ++ ys)
ordered_append P Q [] ys f o a o' b = o'
ordered_append P Q (x ∷ xs) ys f o a o' b =
    (all_append (Before x) xs ys o.0 (all_weaker Q (Before x) ys (λ e q. f x e a.0 q) b), ordered_append P Q xs ys f o.1 a.1 o' b)

-- ---- the entries of one group

-- an entry of group g that is at (k, i) or behind it
record From (g k i : ℕ) (e : Entry) : Type 0 where
  group : e.group ≡ g
  kind : k ≤ e.kind
  item : e.kind ≡ k → i ≤ e.item

-- of group g and up to (k, i), without it
record Until (g k i : ℕ) (e : Entry) : Type 0 where
  group : e.group ≡ g
  kind : e.kind ≤ k
  item : e.kind ≡ k → e.item < i

until_from : (g k i : ℕ) (d e : Entry) → Until g k i d → From g k i e → Before d e
until_from g k i d e u f = go (eqb d.kind e.kind) refl
  where
    go : (t : Bool) → eqb d.kind e.kind ≡ t → Before d e
    go true h =
        let s = eqb-true d.kind e.kind h in
        let l : e.kind ≡ k = omega (arith, u.kind, f.kind) in
        let m : d.kind ≡ k = omega arith in
        by_item (omega (arith, u.group, f.group)) s (omega (arith, u.item m, f.item l))
    go false h =
        let n : d.kind ≡ e.kind → ⊥ = eqb-false d.kind e.kind h in
        by_kind (omega (arith, u.group, f.group)) (omega (arith, u.kind, f.kind))

from_later : (g k i j : ℕ) → i ≤ j → (e : Entry) → From g k j e → From g k i e
from_later g k i j h e f = record { group = f.group; kind = f.kind; item = λ q. omega (arith, f.item q) }

-- entries of group g in order, from (k, i) on
record Run (g k i : ℕ) (es : List Entry) : Type 0 where
  ordered : Ordered es
  from : All (From g k i) es

no_run : (g k i : ℕ) → Run g k i []
no_run g k i = record { ordered = tt; from = tt }

-- one entry, if any, before those behind it
run_more : (g k i b : ℕ) (t : Bool) (es : List Entry) → Run g k (suc i) es → Run g k i (unless t (entry k g i b) ++ es)
run_more g k i b true es r = record { ordered = r.ordered; from = all_weaker (From g k (suc i)) (From g k i) es (from_later g k i (suc i) (omega arith)) r.from }
run_more g k i b false es r =
    record {
      ordered = (all_weaker (From g k (suc i)) (Before (entry k g i b)) es (λ e f. until_from g k (suc i) (entry k g i b) e (record { group = refl; kind = omega arith; item = λ _. omega arith }) f) r.from, r.ordered);
      from = (record { group = refl; kind = omega arith; item = λ _. omega arith }, all_weaker (From g k (suc i)) (From g k i) es (from_later g k i (suc i) (omega arith)) r.from);
    }

alone_run : {A : Type 0} (k g i : ℕ) (xs : List A) → Run g k i (alone k g i xs)
unfolding alone
alone_run k g i [] = no_run g k i
alone_run k g i (x ∷ xs) = run_more g k i 0 false (alone k g (suc i) xs) (alone_run k g (suc i) xs)

alone_kind : {A : Type 0} (k g i : ℕ) (xs : List A) → All (λ e. e.kind ≤ k) (alone k g i xs)
unfolding alone
alone_kind k g i [] = tt
alone_kind k g i (x ∷ xs) = (omega arith, alone_kind k g (suc i) xs)

channels_run : (g i : ℕ) (cs ds : List Channel) → Run g 3 i (channel_entries g i cs ds)
unfolding channel_entries
channels_run g i [] ds = alone_run 3 g i ds
channels_run g i (c ∷ cs) [] = alone_run 3 g i (c ∷ cs)
channels_run g i (c ∷ cs) (d ∷ ds) = run_more g 3 i 0 (same_channel c d) _ (channels_run g (suc i) cs ds)

channels_kind : (g i : ℕ) (cs ds : List Channel) → All (λ e. e.kind ≤ 3) (channel_entries g i cs ds)
unfolding channel_entries
channels_kind g i [] ds = alone_kind 3 g i ds
channels_kind g i (c ∷ cs) [] = alone_kind 3 g i (c ∷ cs)
channels_kind g i (c ∷ cs) (d ∷ ds) = all_append (λ e. e.kind ≤ 3) (unless (same_channel c d) (entry 3 g i 0)) _ (go (same_channel c d)) (channels_kind g (suc i) cs ds)
  where
    go : (t : Bool) → All (λ e. e.kind ≤ 3) (unless t (entry 3 g i 0))
    go true = tt
    go false = (omega arith, tt)

from_five : (g i j : ℕ) (e : Entry) → From g 5 i e → From g 4 j e
from_five g i j e f = record { group = f.group; kind = omega (arith, f.kind); item = λ q. absurd (omega (arith, f.kind)) }

five_run : {A : Type 0} (g i : ℕ) (xs : List A) → Run g 4 i (alone 5 g i xs)
five_run g i xs =
    let r = alone_run 5 g i xs in
    record { ordered = r.ordered; from = all_weaker (From g 5 i) (From g 4 i) (alone 5 g i xs) (from_five g i i) r.from }

records_run : (g i : ℕ) (xs ys : List (List ℕ)) → Run g 4 i (record_entries g i xs ys)
unfolding record_entries
records_run g i [] ys = five_run g i ys
records_run g i (x ∷ xs) [] = five_run g i (x ∷ xs)
records_run g i (x ∷ xs) (y ∷ ys) = run_more g 4 i _ (same_bytes x y) _ (records_run g (suc i) xs ys)

from_four : (g : ℕ) (e : Entry) → From g 4 0 e → From g 3 1 e
from_four g e f = record { group = f.group; kind = omega (arith, f.kind); item = λ q. absurd (omega (arith, f.kind)) }

group_run : (g : ℕ) (p q : Group) → Run g 3 0 (group_entries g p q)
unfolding group_entries
group_run g p q =
    let c = channels_run g 1 p.channels q.channels in
    let r = records_run g 0 p.records q.records in
    let cs = channel_entries g 1 p.channels q.channels in
    let rs = record_entries g 0 p.records q.records in
    let both_runs : Run g 3 1 (cs ++ rs) =
    record {
      ordered = ordered_append (λ d. (d.group ≡ g) × (d.kind ≤ 3)) (From g 4 0) cs rs (λ d e u f. by_kind (omega (arith, u.0, f.group)) (omega (arith, u.1, f.kind))) c.ordered (low cs c.from (channels_kind g 1 p.channels q.channels)) r.ordered r.from;
      from = all_append (From g 3 1) cs rs c.from (all_weaker (From g 4 0) (From g 3 1) rs (from_four g) r.from);
    } in
    run_more g 3 0 0 (same_own p q) (cs ++ rs) both_runs
  where
    low : (es : List Entry) → All (From g 3 1) es → All (λ e. e.kind ≤ 3) es → All (λ d. (d.group ≡ g) × (d.kind ≤ 3)) es
    low [] a b = tt
    low (e ∷ es) a b = ((a.0.group, b.0), low es a.1 b.1)

-- ---- the entries of all groups, and of the file

-- an entry of group g or of a later one, not of kind 1
record Later (g : ℕ) (e : Entry) : Type 0 where
  group : g ≤ e.group
  kind : 2 ≤ e.kind

groups_alone_later : (g : ℕ) (ps : List Group) → Ordered (groups_alone g ps) × All (Later g) (groups_alone g ps)
unfolding groups_alone
groups_alone_later g [] = (tt, tt)
groups_alone_later g (p ∷ ps) =
    let r = groups_alone_later (suc g) ps in
    let es = groups_alone (suc g) ps in (
      (all_weaker (Later (suc g)) (Before (entry 2 g 0 0)) es (λ e l. by_group (omega (arith, l.group))) r.1, r.0),
      (record { group = omega arith; kind = omega arith }, all_weaker (Later (suc g)) (Later g) es (λ e l. record { group = omega (arith, l.group); kind = l.kind }) r.1),
    )

groups_later : (g : ℕ) (ps qs : List Group) → Ordered (groups_entries g ps qs) × All (Later g) (groups_entries g ps qs)
unfolding groups_entries
groups_later g [] qs = groups_alone_later g qs
groups_later g (p ∷ ps) [] = groups_alone_later g (p ∷ ps)
groups_later g (p ∷ ps) (q ∷ qs) =
    let a = group_run g p q in
    let r = groups_later (suc g) ps qs in
    let es = group_entries g p q in
    let fs = groups_entries (suc g) ps qs in (
      ordered_append (From g 3 0) (Later (suc g)) es fs (λ d e u l. by_group (omega (arith, u.group, l.group))) a.ordered a.from r.0 r.1,
      all_append (Later g) es fs (all_weaker (From g 3 0) (Later g) es (λ e f. record { group = omega (arith, f.group); kind = omega (arith, f.kind) }) a.from) (all_weaker (Later (suc g)) (Later g) fs (λ e l. record { group = omega (arith, l.group); kind = l.kind }) r.1),
    )

file_run : (r s : Reading) → Run 0 1 0 (file_entries r s)
unfolding file_entries
file_run r s =
    run_more 0 1 0 0 (same_bytes r.ident s.ident) _
    (run_more 0 1 1 0 (same_header r s) _
    (run_more 0 1 2 0 (same_body r.comment s.comment) _
    (last (same_body r.program s.program))))
  where
    last : (t : Bool) → Run 0 1 3 (unless t (entry 1 0 3 0))
    last true = no_run 0 1 3
    last false = record { ordered = (tt, tt); from = (record { group = refl; kind = omega arith; item = λ _. omega arith }, tt) }

file_kind : (r s : Reading) → All (λ e. (e.group ≡ 0) × (e.kind ≡ 1)) (file_entries r s)
unfolding file_entries
file_kind r s =
    more 0 (same_bytes r.ident s.ident) _
    (more 1 (same_header r s) _
    (more 2 (same_body r.comment s.comment) _
    (last (same_body r.program s.program))))
  where
    last : (t : Bool) → All (λ e. (e.group ≡ 0) × (e.kind ≡ 1)) (unless t (entry 1 0 3 0))
    last true = tt
    last false = ((refl, refl), tt)

    more : (i : ℕ) (t : Bool) (es : List Entry) → All (λ e. (e.group ≡ 0) × (e.kind ≡ 1)) es → All (λ e. (e.group ≡ 0) × (e.kind ≡ 1)) (unless t (entry 1 0 i 0) ++ es)
    more i true es a = a
    more i false es a = ((refl, refl), a)

first_of_all : (d e : Entry) → (d.group ≡ 0) × (d.kind ≡ 1) → Later 0 e → Before d e
first_of_all d e u l = go (eqb d.group e.group) refl
  where
    go : (t : Bool) → eqb d.group e.group ≡ t → Before d e
    go true h = by_kind (eqb-true d.group e.group h) (omega (arith, u.1, l.kind))
    go false h =
        let n : d.group ≡ e.group → ⊥ = eqb-false d.group e.group h in
        by_group (omega (arith, u.0))

pub entries_are_ordered : EntriesAreOrdered
unfolding differences
entries_are_ordered r s =
    let g = groups_later 0 r.groups s.groups in
    ordered_append (λ d. (d.group ≡ 0) × (d.kind ≡ 1)) (Later 0) (file_entries r s) (groups_entries 0 r.groups s.groups) first_of_all (file_run r s).ordered (file_kind r s) g.0 g.1
