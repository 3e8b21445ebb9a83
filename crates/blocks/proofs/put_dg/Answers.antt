use mathlib.Core.Path.{refl}
use Rattle.write.specs.Write.{then}
use Rattle.blocks.specs.Blocks.{dg_bytes}
use Rattle.blocks.proofs.put_dg.Goals as goal

pub returns : goal.returns
unfolding dg_bytes
returns c = then (then (then c.put_block_head.ensures c.put_links.ensures refl) c.put_number.ensures refl) c.put_zeros.ensures refl
