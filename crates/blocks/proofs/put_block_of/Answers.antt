use mathlib.Core.Path.{refl}
use Rattle.write.specs.Write.{then}
use Rattle.blocks.specs.Blocks.{block_bytes}
use Rattle.blocks.proofs.put_block_of.Goals as goal

pub returns : goal.returns
unfolding block_bytes
returns c = then c.put_block_head.ensures c.put_all.ensures refl
