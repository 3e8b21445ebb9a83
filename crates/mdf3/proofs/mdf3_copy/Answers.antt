use Rattle.mdf3.proofs.Answers.{copy_given}
use mathlib.Core.Path.{◌∙◌}
use Rattle.std.proofs.Common.{rules}
use Rattle.mdf3.proofs.mdf3_copy.Goals as goal

pub returns : goal.returns
returns c =
    let g = copy_given c.copy.result c.map-copied.result _ _ c.copy.ensures.0 (search rules) in
    (c.give.ensures.0 ∙ g.0, c.give.ensures.1 ∙ g.1, c.copy.ensures.1)
