-- Groups side by side, and those that one file alone has.
-- Assumes nothing.
use Prim.Native.Nat.{ℕ, suc, ◌+◌}
use mathlib.Core.Path.{◌≡◌, refl, sym, ap, ◌∙◌}
use mathlib.Core.Bool.{Bool, true, false}
use mathlib.Core.List.{List, [], ◌∷◌, ◌++◌}
use native.Mathlib.Numerals.{add-one}
use Rattle.answers.specs.Readings.{Channel, Group}
use Rattle.answers.specs.Differences.{Entry, entry, unless, same_own, alone, channel_entries, record_entries, group_entries, groups_alone, groups_entries}
use Rattle.answers.proofs.Laws.{same_refl}
use Rattle.reading.specs.Promise.{Keyed, log_at, records_with}
use Rattle.reading.specs.declared.Group.{Group as CursorGroup}
use Rattle.reading.specs.declared.Groups.{Groups}
use Rattle.reading.specs.Steps.{groups_left, the_group, log_of, unsorted, key_of, ends_data_group, AtKeys, KeyStep, GroupStepIs}
use Rattle.std.specs.Prelude.{Option, Some, None, IfSome}
use Rattle.same_records.specs.declared.Marks.{Marks}
use Rattle.same_records.specs.Marks.{Told}
use Rattle.listing.specs.declared.List.{List as Written}
use Rattle.listing.specs.Growing.{Grown, Listing}
use Rattle.listing.proofs.Laws.{grown_as, grown_then, turn}

-- ---- one group

-- its own fields and comment, then its channels, then its records
pub group_listed : (g : ℕ) (p q : Group) {same : Bool} {i : ℕ} {cs ds : List Channel} {before channels records after : Written}
    → same ≡ same_own p q
    → Grown before channels (unless same (entry 3 g 0 0))
    → i ≡ 0
    → cs ≡ p.channels
    → ds ≡ q.channels
    → Grown channels records (channel_entries g (i + 1) cs ds)
    → Grown records after (record_entries g 0 p.records q.records)
    → Grown before after (group_entries g p q)
unfolding group_entries
group_listed g p q e l i f h m n = grown_then (rw e at l) (grown_then (rw (i, f, h) at m) n)

-- the same records have no entries
pub same_records : (g i : ℕ) {xs ys : List (List ℕ)} → xs ≡ ys → [] ≡ record_entries g i xs ys
unfolding record_entries alone
same_records g i {xs} e = rw (← e) (sym (none g i xs))
  where
    none : (g i : ℕ) (xs : List (List ℕ)) → record_entries g i xs xs ≡ []
    none g i [] = refl
    none g i (x ∷ xs) = rw (same_refl x) (none g (suc i) xs)

-- ---- groups that one file alone has

pub alone_none : (g : ℕ) (ps : List Group) → ps ≡ [] → groups_alone g ps ≡ []
unfolding groups_alone
alone_none g ps e = rw e

pub alone_next : (g h : ℕ) {ps ps' : List Group} {p : Group} → ps ≡ p ∷ ps' → h ≡ g + 1 → groups_alone g ps ≡ (entry 2 g 0 0 ∷ []) ++ groups_alone h ps'
unfolding groups_alone
alone_next g h e k = rw (e, k, add-one)

-- ---- groups side by side

pub none_left : (g : ℕ) (ps qs : List Group) → ps ≡ [] → groups_entries g ps qs ≡ groups_alone g qs
unfolding groups_entries
none_left g ps qs e = rw e

pub none_right : (g : ℕ) (ps qs : List Group) → qs ≡ [] → groups_entries g ps qs ≡ groups_alone g ps
unfolding groups_entries groups_alone
none_right g [] qs e = rw e
none_right g (p ∷ ps) qs e = rw e

pub both_next : (g h : ℕ) {ps qs ps' qs' : List Group} {p q : Group} → ps ≡ p ∷ ps' → qs ≡ q ∷ qs' → h ≡ g + 1 → groups_entries g ps qs ≡ group_entries g p q ++ groups_entries h ps' qs'
unfolding groups_entries
both_next g h e f k = rw (e, f, k, add-one)

-- ---- what is told of two data groups

-- keys of the groups before a cursor
pub record KeysBefore (c : Groups) : Type 0 where
  pub keys : List ℕ
  pub stand : AtKeys c keys

pub keys_on : (keys : List ℕ) (g : CursorGroup) (n : Groups) → KeyStep keys g n → KeysBefore n
keys_on keys g n s = go (unsorted g) (ends_data_group n) refl refl
  where
    go : (t u : Bool) → unsorted g ≡ t → ends_data_group n ≡ u → KeysBefore n
    go false u e f = record { keys = []; stand = (s.sorted e).1 }
    go true false e f = record { keys = key_of g ∷ keys; stand = (s.more e f).0 }
    go true true e f = record { keys = []; stand = (s.last e f).0 }

-- the records of the data group of the group before a cursor, or of the next one
abbrev pub log_before : Groups → List Keyed
log_before c = log_at c.image.now c.index

-- it is told of the next groups too where neither data group ends
pub told_on : (ks ls : List ℕ) (g h : CursorGroup) (e f : Groups) (told : Option Marks)
    → KeyStep ks g e
    → KeyStep ls h f
    → Told told (log_of g) (log_of h)
    → IfSome told (λ m. (unsorted g ≡ true) × (unsorted h ≡ true))
    → (ends_data_group e ≡ false) × (ends_data_group f ≡ false)
    → Told told (log_before e) (log_before f)
told_on ks ls g h e f None x y tells both on = tt
told_on ks ls g h e f (Some m) x y tells both on =
    let p = (x.more both.0 on.0).1 in
    let q = (y.more both.1 on.1).1 in
    λ k z. ap (λ l. records_with l k) p ∙ tells k z ∙ sym (ap (λ l. records_with l k) q)

-- ---- what is known before a pair of groups

pub record Ahead (c d : Groups) (told : Option Marks) : Type 0 where
  pub left : KeysBefore c
  pub right : KeysBefore d
  pub known : Told told (log_before c) (log_before d)

pub first_ahead : {c d : Groups} → AtKeys c [] → AtKeys d [] → Ahead c d None
first_ahead k l = record { left = record { keys = []; stand = k }; right = record { keys = []; stand = l }; known = tt }

module _ {c d : Groups} {told : Option Marks} (p : Ahead c d told) (g h : CursorGroup) (e f : Groups) (v : GroupStepIs c (Some g) e) (w : GroupStepIs d (Some h) f) where
  abbrev left_step : KeyStep p.left.keys g e
  left_step = v.5 p.left.keys p.left.stand

  abbrev right_step : KeyStep p.right.keys h f
  right_step = w.5 p.right.keys p.right.stand

  -- behind them nothing is told, or the same
  pub nothing_ahead : Ahead e f None
  nothing_ahead = record { left = keys_on p.left.keys g e left_step; right = keys_on p.right.keys h f right_step; known = tt }

  pub same_ahead : (tells : Option Marks)
      → Told tells (log_of g) (log_of h)
      → IfSome tells (λ m. (unsorted g ≡ true) × (unsorted h ≡ true))
      → (ends_data_group e ≡ false) × (ends_data_group f ≡ false)
      → Ahead e f tells
  same_ahead tells k both on =
      record {
        left = keys_on p.left.keys g e left_step;
        right = keys_on p.right.keys h f right_step;
        known = told_on p.left.keys p.right.keys g h e f tells left_step right_step k both on;
      }

  -- what is listed then
  pub grown_on : {all : List Entry} {first before after : Written} {n : ℕ}
      → c.index ≡ d.index
      → Listing all first before (groups_entries c.index (groups_left c) (groups_left d))
      → n ≡ c.index
      → Grown before after (group_entries n (the_group g) (the_group h))
      → (e.index ≡ f.index) × Listing all first after (groups_entries e.index (groups_left e) (groups_left f))
  grown_on {n = n} i l m q = (
    v.4 ∙ ap (λ k. k + 1) i ∙ sym w.4,
    turn l (group_entries c.index (the_group g) (the_group h)) (both_next c.index e.index v.3 w.3 v.4) (grown_as q (ap (λ k. group_entries k (the_group g) (the_group h)) m)),
  )
