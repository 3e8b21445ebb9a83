use Rattle.put_channels.proofs.Channels.{layout_end}
use Rattle.answers.specs.Copies.{channel_length}
use native.Mathlib.Omega.{arith}
use mathlib.Core.Path.{ap}
use Rattle.put_channels.proofs.channel_length.Goals as goal

pub returns : goal.returns
returns c =
    let l = c.of.result in
    let e = c.of.ensures in
    (omega (arith, layout_end l, e.0, ap channel_length e.1), omega (arith, l.placed.near, e.0))
