-- Links one behind the other, one more at a time.
-- Assumes nothing.
use Prim.Native.Nat.{ℕ, zero, suc, ◌*◌, ◌<◌}
use mathlib.Core.Path.{◌≡◌, refl}
use mathlib.Core.List.{List, [], ◌∷◌, ◌++◌, map, append_assoc}
use native.Mathlib.Omega.{arith}
use lib.ListN.{length, take, get_or}
use Rattle.spec.specs.Bytes.{bytes_of, join}

pub links_more : (xs : List ℕ) (k : ℕ) → k < length xs
    → join (map (bytes_of 4) (take k xs)) ++ bytes_of 4 (get_or xs k 0) ≡ join (map (bytes_of 4) (take (suc k) xs))
links_more [] k h = absurd (omega arith)
links_more (x ∷ xs) zero h = refl
links_more (x ∷ xs) (suc k) h = rw append_assoc (rw (links_more xs k (omega arith)))

pub length_links : (xs : List ℕ) → length (join (map (bytes_of 4) xs)) ≡ 4 * length xs
length_links [] = refl
length_links (x ∷ xs) = omega (arith, length_links xs)
