use mathlib.Core.Path.{refl}
use Rattle.write.specs.Write.{then}
use Rattle.write.proofs.put_padded.Goals as goal

pub returns : goal.returns
returns c = then c.put_all.ensures c.put_zeros.ensures refl
