use Rattle.put_channels.proofs.Channels.{layout_end, channel_written, channel_long}
use Rattle.reading.specs.Steps.{the_channel}
use Rattle.std.proofs.Math.Logic.{∥∥₁_elim}
use Rattle.std.specs.Coded.{codes}
use native.Mathlib.Omega.{arith}
use Rattle.put_channels.proofs.Layout.put.Goals as goal

pub put_block-requires : goal.put_block-requires
put_block-requires c = omega (arith, c.requires, channel_long (the_channel c.args.self.channel))

pub put_bodies-requires : goal.put_bodies-requires
put_bodies-requires c = omega (arith, layout_end c.args.self, c.requires, c.put_block.auto.out)

pub returns : goal.returns
returns c =
    let l = c.args.self in
    ∥∥₁_elim l.held (hlevel codes) (λ h. channel_written l.channel _ _ _ h c.put_block.ensures c.put_bodies.ensures)
