-- The turn of a loop that writes a list byte by byte.
-- Assumes nothing.
use Prim.Native.Nat.{ℕ, ◌+◌, ◌<◌}
use mathlib.Core.Path.{refl, sym}
use mathlib.Core.List.{List}
use native.Mathlib.Omega.{arith}
use lib.ListN.{length, take, get_or, set, length-take}
use Rattle.std.proofs.Common.{take-suc, add-one}
use Rattle.write.specs.Write.{Wrote, then, wrote_one, wrote_as}

pub byte_more : {d d₁ : List ℕ} {at : ℕ} (s : List ℕ) (i : ℕ) → i < length s → Wrote d d₁ at (take i s) → Wrote d (set d₁ (at + i) (get_or s i 0)) at (take (i + 1) s)
byte_more s i h w =
    wrote_as (then w wrote_one (simp length-take (omega arith))) refl (rw add-one (sym (take-suc s i 0 h)))
