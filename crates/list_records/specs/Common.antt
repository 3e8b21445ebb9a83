-- The entries of the records that both groups have.
-- Assumes nothing.
use Rattle.std.specs.Prelude.{ℕ, suc, List, [], ◌∷◌, ◌++◌}
use Rattle.answers.specs.Differences.{Entry, entry, unless, same_bytes, difference}

-- from record i on
unfoldable pub common_entries : ℕ → ℕ → List (List ℕ) → List (List ℕ) → List Entry
common_entries g i [] ys = []
common_entries g i (x ∷ xs) [] = []
common_entries g i (x ∷ xs) (y ∷ ys) = unless (same_bytes x y) (entry 4 g i (difference x y)) ++ common_entries g (suc i) xs ys
