-- Two's complement, by the weight of the highest bit.
-- Assumes nothing.
use Prim.Native.Nat.{ℕ, suc, ◌+◌, ◌-◌, ◌*◌, ◌%◌, ◌^◌, ◌≤◌, ◌<◌}
use mathlib.Core.Path.{◌≡◌, refl, sym, ◌∙◌, ap, subst}
use mathlib.Core.Bool.{Bool, true, false}
use native.Mathlib.Omega.{arith}
use native.Mathlib.Nat.{le_refl, add-mul}
use borrow.Author.Tests.{lt-ltb, le-ltb, ltb-true, ltb-false}
use lib.Dec.{ltb}
use lib.IntN.{ℤ, pos, negsuc}
use lib.Pow.{pow_mono}
use lib.Signed.{mag, shr_z}
use mir.Syntax.{w64}
use mir.Val.{of_z, to_z}
use mir.ValLaws.{to_z-of_z}
use Rattle.std.proofs.lemmas.Nat.{pow-add, shl-shr, shl_below, shl_whole, pow_pos, mul-le}
use Rattle.spec.specs.Sample.{signed_of, twos}
use Rattle.spec.proofs.Signs.{minus}
use Rattle.bits.proofs.Numbers.{below_multiple}

-- a number that fits 64 bits is kept by them
pub kept : (v : ℤ) {z : ℤ} → mag v < 2 ^ 63 → v ≡ z → to_z w64 (of_z w64 v) ≡ z
kept v l e = to_z-of_z w64 v (record { sfits = l }) ∙ e

module _ (bits n : ℕ) where
  -- the highest bit is clear
  module _ (h : n < 2 ^ (bits - 1)) where
    signed_low : pos n ≡ signed_of bits n
    unfolding signed_of
    signed_low = simp (lt-ltb _ _ h)

    twos_low : n ≡ twos bits n
    unfolding twos
    twos_low = simp (lt-ltb _ _ h)

    spread_low : (u : ℕ) → bits - 1 + u ≡ 63 → shr_z (to_z w64 (n * 2 ^ u)) (2 ^ u) ≡ signed_of bits n
    spread_low u e =
        let l : n * 2 ^ u < 2 ^ 63 = subst (λ j. n * 2 ^ u < 2 ^ j) e (shl_below n (bits - 1) u h) in
        simp (lt-ltb _ _ l, shl-shr n u) signed_low

  -- it is set
  module _ (h : 2 ^ (bits - 1) ≤ n) (l : n < 2 ^ bits) where
    signed_high : negsuc (2 ^ bits - suc n) ≡ signed_of bits n
    unfolding signed_of
    signed_high = simp (le-ltb _ _ h) (sym (minus n (2 ^ bits) l))

    pub twos_high : bits ≤ 64 → 18446744073709551615 - (2 ^ bits - (n + 1)) ≡ twos bits n
    unfolding twos
    twos_high w =
        let m : 2 ^ bits ≤ 2 ^ 64 = pow_mono {i = bits} {j = 64} w in
        let e : 18446744073709551615 - (2 ^ bits - (n + 1)) ≡ n + (2 ^ 64 - 2 ^ bits) = omega arith in
        simp (le-ltb _ _ h) e

    spread_high : (u : ℕ) → 1 ≤ bits → bits + u ≡ 64 → shr_z (to_z w64 (n * 2 ^ u)) (2 ^ u) ≡ signed_of bits n
    spread_high u one e =
        let k = 2 ^ bits - suc n in
        let s : 2 ^ bits ≡ k + 1 + n = omega arith in
        let q = pow_pos u in
        let w : 2 ^ bits * 2 ^ u ≡ 2 ^ 64 = sym (pow-add 2 bits u) ∙ ap (λ j. 2 ^ j) e in
        let v : (k + 1) * 2 ^ u + n * 2 ^ u ≡ 2 ^ 64 = sym (add-mul (k + 1) n (2 ^ u)) ∙ rw (← s) w in
        let g : bits - 1 + u ≡ 63 = omega arith in
        let x : 2 ^ (bits - 1) * 2 ^ u ≡ 2 ^ 63 = sym (pow-add 2 (bits - 1) u) ∙ ap (λ j. 2 ^ j) g in
        let y = mul-le (2 ^ (bits - 1)) (2 ^ u) n (2 ^ u) h (le_refl (2 ^ u)) in
        let a : 2 ^ 63 ≤ n * 2 ^ u = omega arith in
        let b : (k + 1) * 2 ^ u ≡ suc (2 ^ 64 - suc (n * 2 ^ u)) = omega arith in
        simp (le-ltb _ _ a) (ap negsuc (below_multiple k u _ b) ∙ signed_high)

-- the bits moved up to the sign's place, and down again
pub spread : (bits n u : ℕ) → 1 ≤ bits → bits + u ≡ 64 → n < 2 ^ bits → shr_z (to_z w64 (n * 2 ^ u % 2 ^ 64)) (2 ^ u) ≡ signed_of bits n
spread bits n u one e l = rw (shl_whole n bits u 64 l (omega arith)) (go (ltb n (2 ^ (bits - 1))) refl)
  where
    go : (t : Bool) → ltb n (2 ^ (bits - 1)) ≡ t → shr_z (to_z w64 (n * 2 ^ u)) (2 ^ u) ≡ signed_of bits n
    go true f = spread_low bits n (ltb-true _ _ f) u (omega arith)
    go false f = spread_high bits n (ltb-false _ _ f) l u one e

-- in 64 bits
pub twos_is : (bits n : ℕ) → bits ≤ 64 → n < 2 ^ bits → of_z w64 (signed_of bits n) ≡ twos bits n
twos_is bits n w l = go (ltb n (2 ^ (bits - 1))) refl
  where
    go : (t : Bool) → ltb n (2 ^ (bits - 1)) ≡ t → of_z w64 (signed_of bits n) ≡ twos bits n
    go true f = let h = ltb-true _ _ f in ap (of_z w64) (sym (signed_low bits n h)) ∙ twos_low bits n h
    go false f =
        let h : 2 ^ (bits - 1) ≤ n = ltb-false _ _ f in
        let m : 2 ^ bits ≤ 2 ^ 64 = pow_mono {i = bits} {j = 64} w in
        let e : 18446744073709551616 - suc (2 ^ bits - suc n) ≡ 18446744073709551615 - (2 ^ bits - (n + 1)) = omega arith in
        ap (of_z w64) (sym (signed_high bits n h l)) ∙ e ∙ twos_high bits n h l w
