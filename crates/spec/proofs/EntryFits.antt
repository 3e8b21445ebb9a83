-- The numbers of every entry that two accepted images give fit their bytes, and are read back from them.
-- Assumes nothing.
use Prim.Native.Nat.{ℕ, zero, suc, ◌+◌, ◌≤◌, ◌<◌}
use mathlib.Core.Path.{◌≡◌, refl, sym, ap, subst}
use mathlib.Core.Logic.{inl, inr}
use mathlib.Core.List.{List, [], ◌∷◌}
use mathlib.Core.Option.{Option, none, some}
use native.Mathlib.Omega.{arith}
use lib.ListN.{length, get_elem?}
use Rattle.spec.specs.Bytes.{All, field}
use Rattle.spec.specs.Reading.{Channel, Group, Reading}
use Rattle.spec.specs.WellFormed.{channel_total, WellFormedGroup, WellFormed}
use Rattle.spec.specs.Differences.{Entry, entry}
use Rattle.spec.specs.Differing.{FileDue, ChannelDue, RecordDue, GroupDue, Due, Fits, EntriesFit, EntryIsReadBack}
use Rattle.spec.proofs.Places.{number_2, number_4}
use Rattle.spec.proofs.Demand3.{accepted_reading_is_well_formed}
use Rattle.spec.proofs.Due.{entries_are_those_due}

-- ---- what stands at an index

at_below : {A : Type 0} (xs : List A) (k : ℕ) (x : A) → get_elem? xs k ≡ some x → k < length xs
at_below [] k x e = let z : ◌≡◌ {A = ℕ} 0 1 = cc in absurd (omega arith)
at_below (y ∷ xs) zero x e = omega arith
at_below (y ∷ xs) (suc k) x e = omega (arith, at_below xs k x e)

at_all : {A : Type 0} (P : A → Type 0) (xs : List A) (k : ℕ) (x : A) → All P xs → get_elem? xs k ≡ some x → P x
at_all P [] k x a e = let z : ◌≡◌ {A = ℕ} 0 1 = cc in absurd (omega arith)
at_all P (y ∷ xs) zero x a e = let q : y ≡ x = cc in subst P q a.0
at_all P (y ∷ xs) (suc k) x a e = at_all P xs k x a.1 e

at_total : (ps : List Group) (g : ℕ) (p : Group) → get_elem? ps g ≡ some p → length p.channels ≤ channel_total ps
at_total [] g p e = let z : ◌≡◌ {A = ℕ} 0 1 = cc in absurd (omega arith)
at_total (q ∷ ps) zero p e = let h : q ≡ p = cc in omega (arith, ap (λ (x : Group). length x.channels) h)
at_total (q ∷ ps) (suc g) p e = omega (arith, at_total ps g p e)

-- ---- entries

fits : (k g i b : ℕ) (e : Entry) → e ≡ entry k g i b → k < 65536 → g < 4294967296 → i < 4294967296 → b < 4294967296 → Fits e
fits k g i b e h p q u v = subst Fits (sym h) (record { kind = p; group = q; item = u; byte = v })

file_fits : (r s : Reading) (e : Entry) → FileDue r s e → Fits e
file_fits r s e (inl p) = fits 1 0 0 0 e p.1 (omega arith) (omega arith) (omega arith) (omega arith)
file_fits r s e (inr (inl p)) = fits 1 0 1 0 e p.1 (omega arith) (omega arith) (omega arith) (omega arith)
file_fits r s e (inr (inr (inl p))) = fits 1 0 2 0 e p.1 (omega arith) (omega arith) (omega arith) (omega arith)
file_fits r s e (inr (inr (inr p))) = fits 1 0 3 0 e p.1 (omega arith) (omega arith) (omega arith) (omega arith)

module _ (g : ℕ) (below : g < 4294967296) (p q : Group) (e : Entry) (small : length p.channels ≤ 16384) (small' : length q.channels ≤ 16384) where
  channel_fits : (c : ℕ) (x y : Option Channel) → get_elem? p.channels c ≡ x → get_elem? q.channels c ≡ y → ChannelDue g (c + 1) x y e → Fits e
  channel_fits c none none a b h = absurd (h.0 refl)
  channel_fits c none (some y) a b h = fits 3 g (c + 1) 0 e h.1 (omega arith) below (omega (arith, at_below q.channels c y b)) (omega arith)
  channel_fits c (some x) y a b h = fits 3 g (c + 1) 0 e h.1 (omega arith) below (omega (arith, at_below p.channels c x a)) (omega arith)

  module _ (ok : WellFormedGroup p) (ok' : WellFormedGroup q) where
    record_fits : (i : ℕ) (x y : Option (List ℕ)) → get_elem? p.records i ≡ x → get_elem? q.records i ≡ y → RecordDue g i x y e → Fits e
    record_fits i none none a b h = absurd h
    record_fits i none (some y) a b h = fits 5 g i 0 e h (omega arith) below (omega (arith, at_below q.records i y b, ok'.count)) (omega arith)
    record_fits i (some x) none a b h = fits 5 g i 0 e h (omega arith) below (omega (arith, at_below p.records i x a, ok.count)) (omega arith)
    record_fits i (some x) (some y) a b (n, k, first, h) =
        let long : length x ≡ p.record_size = at_all (λ r. length r ≡ p.record_size) p.records i x ok.records a in
        fits 4 g i k e h (omega arith) below (omega (arith, at_below p.records i x a, ok.count)) (omega (arith, first.in_first, ok.record_size))

    parts_fit : GroupDue g (some p) (some q) e → Fits e
    parts_fit (inl h) = fits 3 g 0 0 e h.1 (omega arith) below (omega arith) (omega arith)
    parts_fit (inr (inl (c, h))) = channel_fits c (get_elem? p.channels c) (get_elem? q.channels c) refl refl h
    parts_fit (inr (inr (i, h))) = record_fits i (get_elem? p.records i) (get_elem? q.records i) refl refl h

module _ (r s : Reading) (ok : WellFormed r) (ok' : WellFormed s) (e : Entry) where
  group_fits : (g : ℕ) (x y : Option Group) → get_elem? r.groups g ≡ x → get_elem? s.groups g ≡ y → GroupDue g x y e → Fits e
  group_fits g none none a b h = absurd h
  group_fits g none (some q) a b h = fits 2 g 0 0 e h (omega arith) (omega (arith, at_below s.groups g q b, ok'.group_limit)) (omega arith) (omega arith)
  group_fits g (some p) none a b h = fits 2 g 0 0 e h (omega arith) (omega (arith, at_below r.groups g p a, ok.group_limit)) (omega arith) (omega arith)
  group_fits g (some p) (some q) a b h =
      parts_fit g (omega (arith, at_below r.groups g p a, ok.group_limit)) p q e
      (omega (arith, at_total r.groups g p a, ok.channel_limit))
      (omega (arith, at_total s.groups g q b, ok'.channel_limit))
      (at_all WellFormedGroup r.groups g p ok.groups a)
      (at_all WellFormedGroup s.groups g q ok'.groups b)
      h

  due_fits : Due r s e → Fits e
  due_fits (inl h) = file_fits r s e h
  due_fits (inr (g, h)) = group_fits g (get_elem? r.groups g) (get_elem? s.groups g) refl refl h

pub entries_fit : EntriesFit
entries_fit a b r s bytes bytes' p q e m =
    due_fits r s (accepted_reading_is_well_formed a r bytes p) (accepted_reading_is_well_formed b s bytes' q) e ((entries_are_those_due r s e).0 m)

-- ---- their bytes

pub entry_is_read_back : EntryIsReadBack
unfolding field
entry_is_read_back e f = (number_2 e.kind f.kind, refl, number_4 e.group f.group, number_4 e.item f.item, number_4 e.byte f.byte)
