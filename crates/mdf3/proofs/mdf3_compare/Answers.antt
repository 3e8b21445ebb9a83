use Rattle.mdf3.proofs.Answers.{compare_given}
use mathlib.Core.Path.{◌∙◌}
use Rattle.std.proofs.Common.{rules}
use Rattle.mdf3.proofs.mdf3_compare.Goals as goal

pub returns : goal.returns
returns c =
    let g = compare_given c.compare.result c.map-compared.result _ _ _ c.compare.ensures.0 (search rules) in
    (c.give.ensures.0 ∙ g.0, c.give.ensures.1 ∙ g.1, c.compare.ensures.1)
