-- A length that is added up as far as it is needed.
-- Assumes nothing.
use Prim.Native.Nat.{ℕ, ◌≤◌, ◌<◌}
use mathlib.Core.Path.{◌≡◌, refl}
use mathlib.Core.Bool.{Bool, true, false}
use lib.Dec.{leb}
use borrow.Author.Tests.{leb-true, leb-false}
use native.Mathlib.Omega.{arith}
use Rattle.put_channels.specs.Channels.{Capped}

-- it is exact, or both are above the longest copy
pub by_length : {P : Type 0} {r n : ℕ} → Capped r n → (r ≡ n → P) → (2147483647 < r → 2147483647 < n → P) → P
by_length {P} {r} {n} c f g = go (leb n 2147483647) refl
  where
    go : (t : Bool) → leb n 2147483647 ≡ t → P
    go true e = f (c.exact (leb-true n 2147483647 e))
    go false e = g (c.over (leb-false n 2147483647 e)) (leb-false n 2147483647 e)

pub capped_exact : {r n : ℕ} → Capped r n → r ≤ 2147483647 → r ≡ n
capped_exact c l = by_length c (λ e. e) (λ h g. absurd (omega arith))
