use Rattle.put_groups.proofs.Groups.{blocks_written}
use Rattle.put_groups.proofs.Layout.put_blocks.Goals as goal

pub returns : goal.returns
returns c = blocks_written c.args.self c.args.next c.put_heads.ensures (rw c.text.ensures at c.put_body.ensures) (rw (c.channels.ensures.2, c.first_channel.ensures.0) at c.put_channels.ensures)
