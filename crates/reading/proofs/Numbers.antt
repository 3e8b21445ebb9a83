-- Small facts on numbers and parts of lists.
-- Assumes nothing.
pub use Rattle.image.proofs.Fields.{drop_take}
use Prim.Native.Nat.{ℕ, zero, suc, ◌*◌, ◌≤◌, ◌<◌}
use mathlib.Core.Path.{◌≡◌}
use native.Mathlib.Omega.{arith}
use native.Mathlib.Nat.{mul-le-mul}

-- a count of 4 bytes times a size of 2
pub product_small : (m n : ℕ) → m < 4294967296 → n < 65536 → m * n ≤ 281474976710656
product_small m n h g = let h' : m ≤ 4294967296 = omega arith in let g' : n ≤ 65536 = omega arith in mul-le-mul h' g'

-- a number that is not 0, and what it is
pub above : (x y : ℕ) → x ≡ y → (x ≡ 0 → ⊥) → 0 < y
above x zero e h = absurd (h e)
above x (suc y) e h = omega arith
