use mathlib.Core.Path.{◌≡◌, refl}
use native.Mathlib.Omega.{arith}
use Rattle.std.proofs.Common.{add-one}
use lib.ListN.{length, length-take}
use lib.Seq.{take-length}
use Rattle.write.specs.Write.{wrote_none, then, wrote_as}
use Rattle.blocks.proofs.Links.{links_more, length_links}
use Rattle.blocks.proofs.put_links.Goals as goal

pub loop-k-init : goal.loop-k-init
loop-k-init c = wrote_none

pub loop-k-preserved : goal.loop-k-preserved
loop-k-preserved c =
    let links = c.args.links.now in
    let next = then c.loop-k.invariant c.put_number.ensures (simp (length_links, length-take) (omega arith)) in
    wrote_as next refl (rw add-one (links_more links c.loop-k.k c.loop-k-test.true))

pub returns : goal.returns
returns c =
    let all : c.loop-k.k ≡ length c.args.links.now = omega arith in
    wrote_as c.loop-k.invariant refl (rw (all, take-length))
