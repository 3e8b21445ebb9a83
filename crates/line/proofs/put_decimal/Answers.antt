use mathlib.Core.Path.{◌≡◌, refl, sym, ap, ◌∙◌}
use Prim.Native.Nat.{◌+◌, ◌-◌, ◌%◌}
use native.Mathlib.Omega.{arith}
use lib.ListN.{length, drop, set, length-set, length-drop}
use lib.Seq.{take_all}
use Rattle.write.specs.Write.{wrote_as}
use Rattle.line.proofs.Digits.{digits_start, digits_turn, digits_last, width_start, width_turn, drop_stored}
use Rattle.line.proofs.put_decimal.Goals as goal

pub loop-left-init : goal.loop-left-init
loop-left-init c =
    (omega arith, omega arith, refl, width_start _ (omega arith), digits_start _)

pub loop-left-preserved : goal.loop-left-preserved
loop-left-preserved c =
    let l = c.loop-left in
    let w = width_turn l.k l.left l.invariant.3 (omega arith) in
    let d = drop_stored l.text l.k (48 + l.left % 10) (omega arith) (omega arith) in
    let t = digits_turn l.k l.left (drop l.k l.text) (omega arith) (omega arith) in
    (omega arith, omega arith, simp length-set l.invariant.2, w.1, rw d (t ∙ l.invariant.4))

pub returns : goal.returns
returns c =
    let l = c.loop-left in
    let t = set l.text (l.k - 1) (48 + l.left) in
    let s : length (drop (l.k - 1) t) ≡ 20 - (l.k - 1) = simp (length-drop, length-set) (rw l.invariant.2) in
    let d = digits_last l.k l.left (drop l.k l.text) (omega arith) (omega arith) in
    let e = drop_stored l.text l.k (48 + l.left) (omega arith) (omega arith) ∙ sym d ∙ l.invariant.4 in
    let a = take_all (20 - (l.k - 1)) (drop (l.k - 1) t) (omega arith) in
    (wrote_as c.put_all.ensures refl (a ∙ e), omega (arith, ap length e), omega arith)
