use Rattle.answers.specs.Copies.{channels_length}
use Rattle.reading.specs.Steps.{the_channel}
use Rattle.put_channels.proofs.Channels.{channel_long}
use lib.ListN.{length}
use mathlib.Core.Path.{ap}
use native.Mathlib.Omega.{arith}
use Rattle.put_channels.proofs.channels_sum.Goals as goal

pub loop-x-preserved : goal.loop-x-preserved
loop-x-preserved c =
    let inv = c.loop-x.invariant in
    let left = c.in-Some.ensures.steps.4 in
    let long = c.channel_length.ensures.0 in
    (omega (arith, c.if-sum-gt-LONGEST.false), omega (arith, inv.1, long, channel_long (the_channel c.in-Some.x)), omega (arith, inv.2, ap channels_length left, long), omega (arith, inv.3, ap length left))
