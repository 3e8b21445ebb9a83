use Rattle.image.proofs.Numbers.{number_held}
use mathlib.Core.Path.{refl}
use Rattle.image.proofs.held.Goals as goal

pub returns : goal.returns
returns c =
    let n = c.number_of in
    number_held _ _ _ _ refl c.requires.1 n.ensures.0 n.ensures.1
