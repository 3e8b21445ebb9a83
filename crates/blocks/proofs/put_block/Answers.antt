use Rattle.blocks.specs.Blocks.{block_bytes}
use Rattle.blocks.proofs.put_block.Goals as goal

pub returns : goal.returns
unfolding block_bytes
returns g c = rw c.ID.ensures at c.put_block_of.ensures
