-- The bytes of a number as std has them, and as `spec` has them.
-- Assumes nothing.
use Prim.Native.Nat.{ℕ, zero, suc, ◌/◌, ◌≤◌}
use mathlib.Core.Path.{◌≡◌, refl}
use native.Mathlib.Omega.{arith}
use lib.ListN.{take}
use Rattle.std.proofs.Common.{w64}
use Rattle.std.proofs.Math.Nat.{div-div-eq-div-mul}
use Rattle.std.specs.Int.{to_le_bytes}
use Rattle.spec.specs.Bytes.{bytes_of}

eight : (n : ℕ) → to_le_bytes w64 n ≡ bytes_of 8 n
eight n = simp div-div-eq-div-mul

fewer : (k m n : ℕ) → k ≤ m → take k (bytes_of m n) ≡ bytes_of k n
fewer zero m n h = refl
fewer (suc k) zero n h = absurd (omega arith)
fewer (suc k) (suc m) n h = rw (fewer k m (n / 256) (omega arith))

pub low_bytes : (k n : ℕ) → k ≤ 8 → take k (to_le_bytes w64 n) ≡ bytes_of k n
low_bytes k n h = rw (eight n, fewer k 8 n h)
