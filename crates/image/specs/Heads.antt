-- A block's identifier and size are its first 4 bytes.
-- Assumes nothing.
use Rattle.std.specs.Prelude.{ℕ, ◌+◌, ◌≤◌}
use native.Mathlib.Omega.{arith}

-- a size that is 4 and more holds them
pub holds_head : (more : ℕ) → 4 ≤ 4 + more
holds_head more = omega arith
