use Rattle.write.specs.Write.{wrote_as}
use mathlib.Core.Path.{refl}
use Rattle.write.proofs.Numbers.{low_bytes}
use Rattle.write.proofs.put_number.Goals as goal

pub returns : goal.returns
returns g c = wrote_as c.put_all.ensures refl (rw c.to_le_bytes.ensures (low_bytes _ _ c.requires.0))
