use Rattle.listing.proofs.Laws.{capped_least}
use mathlib.Core.Path.{◌∙◌}
use Rattle.listing.proofs.cap.Goals as goal

pub returns : goal.returns
returns c = c.min.ensures ∙ capped_least c.args.n
