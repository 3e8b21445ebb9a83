-- Numbers of bytes, the highest first; the lowest bits of a number.
-- Assumes nothing.
use Prim.Native.Nat.{ℕ, suc, ◌+◌, ◌-◌, ◌*◌, ◌/◌, ◌%◌, ◌^◌, ◌<◌, ◌≤◌}
use mathlib.Core.Path.{◌≡◌, sym, ap, ◌∙◌}
use mathlib.Core.List.{List, [], ◌∷◌, ◌++◌, reverse, reverse-append}
use native.Mathlib.Omega.{arith}
use native.Mathlib.Nat.{pow-suc, lt_of_lt_of_le, pow-le-pow_right}
use native.Mathlib.Numerals.{add-one}
use lib.Dec.{lit<}
use lib.ListN.{length}
use Rattle.std.proofs.lemmas.List.{length_push}
use Rattle.std.proofs.lemmas.Nat.{pow-add, pow_pos, shr_high, and_mask, mod_below, or_shifted, shl_whole}
use Rattle.std.specs.Prelude.{bit_and, bit_or}
use Rattle.spec.specs.Bytes.{number}

-- so far a fold over bytes has given their number, as long as it fits
abbrev pub Folded : List ℕ → ℕ → Type 0
Folded bytes v = length bytes ≤ 8 → (v ≡ number (reverse bytes)) × (v < 256 ^ length bytes)

-- a byte more, at the low end
pub folded : (bytes : List ℕ) (v x w : ℕ) → x < 2 ^ 8 → w ≡ bit_or (v * 2 ^ 8 % 2 ^ 64) x → Folded bytes v → Folded (bytes ++ (x ∷ [])) w
folded bytes v x w h e f l =
    let m = length_push bytes x in
    let g = f (omega arith) in
    let p = pow-suc 256 (length bytes) in
    let u : v < 2 ^ 56 = lt_of_lt_of_le g.1 (pow-le-pow_right (lit< tt) {i = length bytes} {j = 7} (omega arith)) in
    let t : w ≡ v * 2 ^ 8 + x = rw (e, shl_whole v 56 8 64 u (lit< tt)) (or_shifted v 8 x h) in
    let r = reverse-append bytes (x ∷ []) in
    (rw (r, t) (omega arith), rw (m, add-one (length bytes), p, t) (omega arith))

-- one less than a multiple of a power of two
pub below_multiple : (d u m : ℕ) → (d + 1) * 2 ^ u ≡ suc m → m / 2 ^ u ≡ d
below_multiple d u m e =
    let q = pow_pos u in
    let f : m ≡ d * 2 ^ u + (2 ^ u - 1) = omega arith in
    rw f (shr_high d u (2 ^ u - 1) (omega arith))

-- so many bits set
pub mask : (bits u : ℕ) → bits + u ≡ 64 → 18446744073709551615 / 2 ^ u ≡ 2 ^ bits - 1
mask bits u e =
    let p = pow_pos bits in
    let s : 2 ^ bits - 1 + 1 ≡ 2 ^ bits = omega arith in
    let w : 2 ^ bits * 2 ^ u ≡ 2 ^ 64 = sym (pow-add 2 bits u) ∙ ap (λ k. 2 ^ k) e in
    below_multiple (2 ^ bits - 1) u 18446744073709551615 (rw s w)

pub masked : (bits u v : ℕ) → bits + u ≡ 64 → (bit_and v (18446744073709551615 / 2 ^ u) ≡ v % 2 ^ bits) × (bit_and v (18446744073709551615 / 2 ^ u) < 2 ^ bits)
masked bits u v e =
    let m : bit_and v (18446744073709551615 / 2 ^ u) ≡ v % 2 ^ bits = ap (bit_and v) (mask bits u e) ∙ and_mask v bits in
    (m, rw m (mod_below v (2 ^ bits) (pow_pos bits)))
