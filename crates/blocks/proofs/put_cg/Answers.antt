use mathlib.Core.Path.{refl}
use Rattle.write.specs.Write.{then}
use Rattle.blocks.specs.Blocks.{cg_bytes}
use Rattle.blocks.proofs.put_cg.Goals as goal

pub returns : goal.returns
unfolding cg_bytes
returns c =
    let head = then c.put_block_head.ensures c.put_links.ensures refl in
    let numbers = then (then (then (then head c.put_number.ensures refl) c.put_number-2.ensures refl) c.put_number-3.ensures refl) c.put_number-4.ensures refl in
    then numbers c.put_links-2.ensures refl
