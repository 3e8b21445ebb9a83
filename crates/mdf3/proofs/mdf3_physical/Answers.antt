use Rattle.mdf3.proofs.Answers.{physical_given}
use mathlib.Core.Path.{◌∙◌}
use Rattle.std.proofs.Common.{rules}
use Rattle.mdf3.proofs.mdf3_physical.Goals as goal

pub returns : goal.returns
returns c =
    let g = physical_given _ _ _ _ c.physical.result c.map-measured.result c.physical.ensures (search rules) in
    (c.give.ensures.0 ∙ g.0, c.give.ensures.1 ∙ g.1)
