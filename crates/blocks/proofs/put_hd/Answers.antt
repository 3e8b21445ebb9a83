use mathlib.Core.Path.{refl}
use native.Mathlib.Omega.{arith}
use Rattle.write.specs.Write.{then}
use Rattle.blocks.specs.Blocks.{hd_bytes}
use Rattle.blocks.proofs.put_hd.Goals as goal

pub returns : goal.returns
unfolding hd_bytes
returns c =
    let head = then (then c.put_block_head.ensures c.put_links.ensures refl) c.put_number.ensures refl in
    let plain = then head c.put_all.ensures refl in
    then plain c.put_padded.ensures (omega (arith, c.requires))
