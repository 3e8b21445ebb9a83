use mathlib.Core.Path.{refl}
use lib.ListN.{length-set}
use Rattle.write.specs.Write.{wrote_none}
use Rattle.write.proofs.Copying.{byte_more}
use Rattle.write.proofs.put_all.Goals as goal

pub loop-k-init : goal.loop-k-init
loop-k-init c = (refl, wrote_none)

pub loop-k-preserved : goal.loop-k-preserved
loop-k-preserved c =
    let l = c.loop-k in
    (simp length-set l.invariant.0, byte_more c.args.src.now l.k c.loop-k-test.true l.invariant.1)
