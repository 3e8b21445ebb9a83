-- Laws of decimal digits that are filled in from the low end, and of the line.
-- Assumes nothing.
use Prim.Native.Nat.{ℕ, zero, suc, ◌+◌, ◌-◌, ◌/◌, ◌%◌, ◌^◌, ◌≤◌, ◌<◌}
use mathlib.Core.Path.{◌≡◌, refl, ◌∙◌}
use mathlib.Core.List.{List, [], ◌∷◌, ◌++◌, append_assoc}
use native.Mathlib.Omega.{arith}
use native.Mathlib.Nat.{pow-suc}
use borrow.Author.Tests.{lt-ltb, le-ltb}
use lib.ListN.{length, drop, set, length-set, length-append}
use lib.Seq.{drop-cons, get_or-set_same, drop-set-lt}
use Rattle.spec.specs.Call.{digits, line}
use Rattle.write.specs.Write.{Wrote, wrote_one, wrote_as, then}
use Rattle.line.specs.Line.{shown}

-- before the first digit
pub digits_start : (n : ℕ) → digits 20 n [] ≡ shown n
unfolding shown
digits_start n = refl

-- a digit that others stand before, and the first one
pub digits_turn : (k n : ℕ) (after : List ℕ) → 0 < k → 10 ≤ n → digits (k - 1) (n / 10) ((48 + n % 10) ∷ after) ≡ digits k n after
digits_turn zero n after h g = absurd (omega arith)
digits_turn (suc k) n after h g =
    let e : suc k - 1 ≡ k = omega arith in
    rw (e, le-ltb n 10 g)

pub digits_last : (k n : ℕ) (after : List ℕ) → 0 < k → n < 10 → digits k n after ≡ (48 + n) ∷ after
digits_last zero n after h g = absurd (omega arith)
digits_last (suc k) n after h g = rw (lt-ltb n 10 g)

-- k digits are enough for a number below 10 ^ k
pub width_start : (n : ℕ) → n < 2 ^ 64 → n < 10 ^ 20
width_start n h = omega arith

pub width_turn : (k n : ℕ) → n < 10 ^ k → 10 ≤ n → (1 < k) × (n / 10 < 10 ^ (k - 1))
width_turn zero n h g = absurd (omega arith)
width_turn (suc zero) n h g = absurd (omega arith)
width_turn (suc (suc k)) n h g =
    let p = pow-suc 10 (suc k) in
    let e : suc (suc k) - 1 ≡ suc k = omega arith in
    (omega arith, rw e (omega arith))

-- a byte stored before those that are there
pub drop_stored : (b : List ℕ) (k x : ℕ) → 0 < k → k ≤ length b → drop (k - 1) (set b (k - 1) x) ≡ x ∷ drop k b
drop_stored b k x h g =
    let l : k - 1 < length b = omega arith in
    let m : k - 1 < length (set b (k - 1) x) = rw length-set l in
    let e : suc (k - 1) ≡ k = omega arith in
    drop-cons (set b (k - 1) x) (k - 1) 0 m ∙ rw (get_or-set_same b (k - 1) x 0 l, e, drop-set-lt k b (k - 1) x (omega arith))

-- the line as it is put together
line_is : (n p : ℕ) → ((shown n ++ (32 ∷ [])) ++ shown p) ++ (10 ∷ []) ≡ line n p
unfolding shown
line_is n p = joined (shown n) (shown p)
  where
    joined : (a b : List ℕ) → ((a ++ (32 ∷ [])) ++ b) ++ (10 ∷ []) ≡ a ++ (32 ∷ b ++ (10 ∷ []))
    joined a b = simp append_assoc

pub line_written : {d d₁ d₂ : List ℕ} (n p i j : ℕ) → Wrote d d₁ 0 (shown n) → i ≡ 0 + length (shown n)
    → Wrote (set d₁ i 32) d₂ (i + 1) (shown p) → j ≡ i + 1 + length (shown p)
    → Wrote d (set d₂ j 10) 0 (line n p) × (j + 1 ≡ length (line n p))
line_written {d} {d₁} {d₂} n p i j v f w g =
    let blank = then v (wrote_one {at = i} {x = 32}) f in
    let l : length ((shown n ++ (32 ∷ [])) ++ shown p) ≡ j = simp length-append (omega arith) in
    let place = then blank w (simp length-append (omega arith)) in
    let all = then place (wrote_one {at = j} {x = 10}) (omega arith) in
    let e = line_is n p in
    (wrote_as all refl e, rw (← e) (simp length-append (omega arith)))
