use Rattle.mdf3.proofs.Answers.{sample_given}
use mathlib.Core.Path.{◌∙◌}
use Rattle.std.proofs.Common.{rules}
use Rattle.mdf3.proofs.mdf3_sample.Goals as goal

pub returns : goal.returns
returns c =
    let g = sample_given _ _ _ _ c.sample.result c.map-sampled.result c.sample.ensures.outcome_is (search rules) in
    (c.give.ensures.0 ∙ g.0, c.give.ensures.1 ∙ g.1)
