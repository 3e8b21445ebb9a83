use mathlib.Core.Path.{refl, ap}
use mathlib.Core.List.{◌++◌}
use native.Mathlib.Omega.{arith}
use Rattle.spec.specs.Bytes.{bytes_of}
use Rattle.write.specs.Write.{then, wrote_as}
use Rattle.image.proofs.Opening.{two_bytes}
use Rattle.blocks.proofs.put_block_head.Goals as goal

pub returns : goal.returns
returns c =
    let a = c.args in
    wrote_as (then c.put_all.ensures c.put_number.ensures (omega (arith, c.well_formed))) refl (ap (λ i. i ++ bytes_of 2 a.size) (two_bytes a.id (omega (arith, c.well_formed))))
