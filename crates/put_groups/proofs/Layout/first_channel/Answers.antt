use Rattle.put_channels.proofs.Written.{written_length_lem}
use Rattle.std.proofs.Math.Logic.{∥∥₁_elim}
use Rattle.std.specs.Coded.{codes}
use native.Mathlib.Omega.{arith}
use Rattle.put_groups.proofs.Layout.first_channel.Goals as goal

pub returns : goal.returns
returns c =
    let l = c.args.self in
    let small = c.body_length.ensures in
    (∥∥₁_elim l.commented (hlevel codes) λ b. omega (arith, c.text.ensures, small.0, written_length_lem l.comment b), omega (arith, c.text.ensures, small.1))
