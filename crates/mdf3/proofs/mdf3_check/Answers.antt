use Rattle.mdf3.proofs.Answers.{check_given}
use mathlib.Core.Path.{◌∙◌}
use Rattle.std.proofs.Common.{rules}
use Rattle.mdf3.proofs.mdf3_check.Goals as goal

pub returns : goal.returns
returns c =
    let g = check_given _ _ c.open.result c.map-checked.result c.open.ensures.0 (search rules) in
    (c.give.ensures.0 ∙ g.0, c.give.ensures.1 ∙ g.1)
