use Rattle.image.proofs.Ident.{version_short, version_long}
use native.Mathlib.Omega.{arith}
use mathlib.Core.Path.{◌∙◌}
use Rattle.image.proofs.version.Goals as goal

pub returns-then-image-lt30 : goal.returns-then-image-lt30
returns-then-image-lt30 c = version_short c.args.image.now (omega arith)

pub returns : goal.returns
returns c = c.held.ensures.0 ∙ version_long c.args.image.now (omega arith)
