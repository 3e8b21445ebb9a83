use Rattle.write.specs.Write.{wrote_as}
use Rattle.put_channels.proofs.Written.{link_by}
use Rattle.put_channels.proofs.Channels.{block_written}
use Rattle.std.proofs.Math.Logic.{∥∥₁_elim}
use Rattle.std.specs.Coded.{codes}
use mathlib.Core.Path.{refl}
use Rattle.put_channels.proofs.Layout.put_block.Goals as goal

pub returns : goal.returns
returns c =
    let l = c.args.self in
    ∥∥₁_elim l.held (hlevel codes) (λ h.
    wrote_as c.put_cn.ensures refl (block_written _ _ _ _ h l.placed _ _ _ _ _ _ _ (link_by _ c.link_if.ensures c.is_some.ensures) (link_by _ c.link_if-2.ensures c.is_some-2.ensures) (link_by _ c.link_if-3.ensures c.is_some-3.ensures) (link_by _ c.link_if-4.ensures c.is_some-4.ensures) (link_by _ c.link_if-5.ensures c.is_some-5.ensures) c.fields-carried.ensures.are))
