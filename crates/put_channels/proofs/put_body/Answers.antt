use Rattle.write.specs.Write.{wrote_none}
use Rattle.blocks.specs.Blocks.{block_bytes}
use Rattle.put_channels.proofs.put_body.Goals as goal

pub returns-in_default : goal.returns-in_default
returns-in_default g c = rw c.in_default.is wrote_none

pub returns-in-Some : goal.returns-in-Some
unfolding block_bytes
returns-in-Some g c = rw c.in-Some.is c.put_block.ensures
