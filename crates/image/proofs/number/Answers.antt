use Rattle.image.proofs.Numbers.{number_past, number_cut, width_pos}
use native.Mathlib.Omega.{arith}
use mathlib.Core.Path.{sym}
use Rattle.image.proofs.number.Goals as goal

pub returns-in_default : goal.returns-in_default
returns-in_default c = (sym (number_past _ _ _ (let l = c.in_default.ensures.lookup.0 in omega arith)), width_pos _)

pub returns : goal.returns
returns c =
    let n = c.number_of in
    number_cut _ _ _ _ _ c.in-Some.ensures.lookup.0.2 c.min.ensures n.ensures.0 n.ensures.1
