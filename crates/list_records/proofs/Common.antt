-- Records side by side, and those that one group alone has.
-- Assumes nothing.
use Prim.Native.Nat.{ℕ, suc, ◌+◌, ◌-◌}
use mathlib.Core.Path.{◌≡◌, refl, sym, ap}
use mathlib.Core.Logic.{◌⊎◌, inl, inr}
use mathlib.Core.List.{List, [], ◌∷◌, ◌++◌, append_assoc}
use native.Mathlib.Omega.{arith}
use native.Mathlib.Numerals.{add-one}
use lib.ListN.{length}
use Rattle.answers.specs.Differences.{entry, unless, same_bytes, difference, record_entries}
use Rattle.listing.specs.Listing.{numbered}
use Rattle.listing.proofs.Laws.{alone_numbered}
use Rattle.std.specs.Prelude.{min}
use Rattle.list_records.specs.Common.{common_entries}

-- ---- all entries: those of common records, then those of the rest

pub all_entries : (g i k d : ℕ) (xs ys : List (List ℕ)) → k ≡ i + min (length xs) (length ys) → d ≡ (length xs - length ys) + (length ys - length xs) → common_entries g i xs ys ++ numbered 5 g k d ≡ record_entries g i xs ys
unfolding record_entries common_entries
all_entries g i k d [] ys e f =
    let at : k ≡ i = omega (arith, e) in
    let rest : d ≡ length ys = omega (arith, f) in
    rw (at, rest) (sym (alone_numbered 5 g i ys))
all_entries g i k d (x ∷ xs) [] e f =
    let at : k ≡ i = omega (arith, e) in
    let rest : d ≡ suc (length xs) = omega (arith, f) in
    rw (at, rest) (sym (alone_numbered 5 g i (x ∷ xs)))
all_entries g i k d (x ∷ xs) (y ∷ ys) e f =
    rw append_assoc (ap (λ es. unless (same_bytes x y) (entry 4 g i (difference x y)) ++ es) (all_entries g (suc i) k d xs ys (omega (arith, e)) (omega (arith, f))))

-- ---- a step

-- one of them has no more
pub none_common : (g i : ℕ) (xs ys : List (List ℕ)) → (xs ≡ []) ⊎ (ys ≡ []) → common_entries g i xs ys ≡ []
unfolding common_entries
none_common g i xs ys (inl e) = rw e
none_common g i [] ys (inr e) = refl
none_common g i (x ∷ xs) ys (inr e) = rw e

pub common_next : (g i j : ℕ) {xs ys xs' ys' : List (List ℕ)} {x y : List ℕ} → xs ≡ x ∷ xs' → ys ≡ y ∷ ys' → j ≡ i + 1 → common_entries g i xs ys ≡ unless (same_bytes x y) (entry 4 g i (difference x y)) ++ common_entries g j xs' ys'
unfolding common_entries
common_next g i j e f k = rw (e, f, k, add-one)
