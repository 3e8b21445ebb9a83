use Rattle.physical.proofs.Conversions.{short, endless_p1, endless_p2, scaled_is}
use mathlib.Core.Path.{◌∙◌}
use Rattle.physical.proofs.linear.Goals as goal

pub returns-then-cc-lt58 : goal.returns-then-cc-lt58
returns-then-cc-lt58 c = short _ _ c.if-cc-lt58.true

pub returns-in_err-p1 : goal.returns-in_err-p1
returns-in_err-p1 c =
    rw c.from_residual.ensures (endless_p1 _ _ c.if-cc-lt58.false _ c.parameter.ensures c.in_err-p1.ensures)

pub returns-in_err-p2 : goal.returns-in_err-p2
returns-in_err-p2 c =
    let p1 = c.in_ok-p1.ensures in
    rw c.from_residual-in_err-p2.ensures (endless_p2 _ _ c.if-cc-lt58.false _ (p1.1 ∙ c.parameter.ensures) p1.0 _ c.parameter-2.ensures c.in_err-p2.ensures)

pub returns : goal.returns
returns c =
    let p1 = c.in_ok-p1.ensures in
    let p2 = c.in_ok-p2.ensures in
    scaled_is _ _ c.if-cc-lt58.false _ (p1.1 ∙ c.parameter.ensures) p1.0 _ (p2.1 ∙ c.parameter-2.ensures) p2.0 _ c.scaled-y.ensures _ c.finite-3.ensures
