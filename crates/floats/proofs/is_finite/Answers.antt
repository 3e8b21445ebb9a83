use Rattle.std.proofs.Common.{◌∙◌}
use Rattle.floats.proofs.Laws.{finite_is}
use Rattle.floats.proofs.is_finite.Goals as goal

pub returns : goal.returns
returns c = c.is_finite.ensures.value ∙ finite_is c.args.x
