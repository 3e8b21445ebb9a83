-- The linear conversion, formula 0.
-- Assumes nothing.
use Prim.Native.Nat.{ℕ, ◌+◌, ◌≤◌, ◌<◌}
use mathlib.Core.Path.{◌≡◌, ◌∙◌, ap}
use mathlib.Core.Bool.{true, false, ◌&&◌}
use mathlib.Core.List.{List}
use native.Mathlib.Omega.{arith}
use borrow.Author.Tests.{le-leb, lt-leb}
use lib.Dec.{leb}
use lib.ListN.{length}
use lib.Ieee.{Float, binary64, add, mul}
use Rattle.std.specs.Prelude.{Option, Some, None}
use Rattle.answers.specs.Readings.{refused, accepted}
use Rattle.answers.specs.Samples.{finite, P1, P2, linear}
use Rattle.answers.proofs.Laws.{refuses, admits}
use Rattle.physical.specs.Values.{held, FiniteIs}

module _ (cc : List ℕ) (x : Float) where
  pub short : length cc < 58 → refused 16 0 ≡ linear cc x
  unfolding linear
  short l =
      let h : 4 + length cc < 62 = omega arith in
      refuses _ _ _ _ (lt-leb _ _ h)

  module _ (l : 58 ≤ length cc) where
    room : leb 62 (4 + length cc) ≡ true
    room =
        let h : 62 ≤ 4 + length cc = omega arith in
        le-leb _ _ h

    pub endless_p1 : (p1 : Float) → p1 ≡ P1 cc → finite p1 ≡ false → refused 16 0 ≡ linear cc x
    unfolding linear
    endless_p1 p1 e1 h = admits _ _ _ _ room (refuses _ _ _ _ (rw (← e1, h)))

    module _ (p1 : Float) (e1 : p1 ≡ P1 cc) (h1 : finite p1 ≡ true) where
      pub endless_p2 : (p2 : Float) → p2 ≡ P2 cc → finite p2 ≡ false → refused 16 0 ≡ linear cc x
      unfolding linear
      endless_p2 p2 e2 h = admits _ _ _ _ room (refuses _ _ _ _ (rw (← e1, ← e2, h1, h)))

      module _ (p2 : Float) (e2 : p2 ≡ P2 cc) (h2 : finite p2 ≡ true) (y : Float) (e : y ≡ add binary64 (mul binary64 x p2) p1) where
        parameters : (finite (P1 cc) && finite (P2 cc)) ≡ true
        parameters = rw (← e1, ← e2, h1, h2)

        result : y ≡ add binary64 (mul binary64 x (P2 cc)) (P1 cc)
        result = rw (← e1, ← e2) e

        pub scaled_is : (r : Option Float) → FiniteIs y r → held r ≡ linear cc x
        unfolding linear
        scaled_is None h = admits _ _ _ _ room (admits _ _ _ _ parameters (refuses _ _ _ _ (rw (← result) h)))
        scaled_is (Some z) h = admits _ _ _ _ room (admits _ _ _ _ parameters (admits _ _ _ _ (rw (← result, ← h.1) h.0) (ap accepted (h.1 ∙ result))))
