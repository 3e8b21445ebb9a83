use Rattle.put_channels.proofs.Written.{link_by}
use Rattle.copy.proofs.Fronts.{ident_long, header_as, front_written}
use mathlib.Core.Path.{ap}
use lib.ListN.{length}
use native.Mathlib.Omega.{arith}
use Rattle.copy.proofs.put_id_hd.Goals as goal

pub put_all-requires : goal.put_all-requires
put_all-requires c = omega (arith, c.requires.2, ap length c.ident.ensures, ident_long c.args.f)

pub returns : goal.returns
returns c =
    let p = c.requires in
    let w = rw c.ident.ensures at c.put_all.ensures in
    front_written c.args.f (header_as _ c.args.front p.0 _ _ _ _ _ c.link_if.ensures (link_by _ c.link_if-2.ensures c.is_some.ensures) (link_by _ c.link_if-3.ensures c.is_some-2.ensures) p.1 c.fields-carried.ensures.are) w c.put_hd.ensures
