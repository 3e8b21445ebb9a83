use Rattle.reading.specs.Steps.{the_group}
use Rattle.answers.specs.Copies.{body_length}
use Rattle.put_groups.proofs.Groups.{layout_capped}
use Prim.Native.Nat.{◌+◌, ◌-◌, ◌*◌}
use lib.ListN.{length}
use mathlib.Core.Path.{◌≡◌}
use native.Mathlib.Omega.{arith}
use Rattle.put_groups.proofs.Layout.length.Goals as goal

pub returns : goal.returns
returns c =
    let l = c.args.self in
    let g = the_group l.group in
    let e : c.records.result - l.at + c.count.result * c.size.result ≡ 58 + body_length g.comment + l.channels.length + length g.records * g.record_size = rw (c.count.ensures.0, c.size.ensures.0, c.records.ensures.0) (omega arith) in
    (rw c.min.ensures (layout_capped l _ e), omega (arith, c.min.ensures), omega (arith, c.min.ensures))
