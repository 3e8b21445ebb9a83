use mathlib.Core.Path.{refl}
use native.Mathlib.Omega.{arith}
use lib.ListN.{length-append}
use Rattle.write.specs.Write.{then}
use Rattle.blocks.specs.Blocks.{cn_bytes}
use Rattle.blocks.proofs.put_cn.Goals as goal

pub returns : goal.returns
unfolding cn_bytes
returns c =
    let head = then c.put_block_head.ensures c.put_links.ensures refl in
    let main = then head c.put_all.ensures refl in
    let named = then main c.put_links-2.ensures (omega (arith, c.requires)) in
    then named c.put_padded.ensures (simp length-append (omega (arith, c.requires)))
