-- Records that stand end to end, by the bytes they stand in.
-- Assumes nothing.
use Prim.Native.Nat.{ℕ}
use mathlib.Core.Path.{◌≡◌, refl, sym, ap, ◌∙◌}
use mathlib.Core.List.{List, [], ◌∷◌}
use native.Mathlib.Omega.{arith}
use lib.ListN.{length, take, drop}
use lib.Seq.{take_at, drop_at}
use Rattle.std.proofs.Math.Logic.{∥∥₁_elim}
use Rattle.std.proofs.Math.Bridge.{le_prop}
use Rattle.std.specs.Coded.{codes}
use Rattle.answers.specs.Readings.{All, join, WellFormedGroup}
use Rattle.answers.specs.Readings.{Group as ReadGroup}
use Rattle.reading.specs.declared.Data.TheVariants.{Run}
use Rattle.reading.specs.declared.Group.{Group}
use Rattle.reading.specs.declared.Row.{Row}
use Rattle.reading.specs.Steps.{DataIs, the_group}
use Rattle.reading.proofs.Promise.{known_bytes, group_well_formed}

-- pieces of one length are told by the bytes they make, and by how many they are
pub pieces_same : (s : ℕ) (xs ys : List (List ℕ)) → All (λ x. length x ≡ s) xs → All (λ y. length y ≡ s) ys → length xs ≡ length ys → join xs ≡ join ys → xs ≡ ys
pieces_same s [] [] p q n e = refl
pieces_same s [] (y ∷ ys) p q n e = absurd (omega arith)
pieces_same s (x ∷ xs) [] p q n e = absurd (omega arith)
pieces_same s (x ∷ xs) (y ∷ ys) p q n e =
    let h : x ≡ y = sym (take_at x (join xs) s p.0) ∙ ap (take s) e ∙ take_at y (join ys) s q.0 in
    let t : join xs ≡ join ys = sym (drop_at x (join xs) s p.0) ∙ ap (drop s) e ∙ drop_at y (join ys) s q.0 in
    let r = pieces_same s xs ys p.1 q.1 (omega arith) t in
    rw (h, r)

pub runs_same : (g h : ReadGroup) → WellFormedGroup g → WellFormedGroup h → g.record_size ≡ h.record_size → length g.records ≡ length h.records → join g.records ≡ join h.records → g.records ≡ h.records
runs_same g h v w s n e = pieces_same g.record_size g.records h.records v.records (rw s w.records) n e

-- two sorted groups
pub same_by : (g h : Group) (s t : Row) → DataIs g (Run s) → DataIs h (Run t)
    → (the_group g).record_size ≡ (the_group h).record_size → length (the_group g).records ≡ length (the_group h).records
    → s.bytes.now ≡ t.bytes.now → (the_group g).records ≡ (the_group h).records
same_by g h s t x y size count e =
    ∥∥₁_elim g.stands (hlevel (codes, le_prop)) (λ at.
    ∥∥₁_elim h.stands (hlevel (codes, le_prop)) (λ to.
    runs_same (the_group g) (the_group h) (group_well_formed _ _ _ _ at (known_bytes _ g.bytes)) (group_well_formed _ _ _ _ to (known_bytes _ h.bytes)) size count (x.1 ∙ e ∙ sym y.1)))
