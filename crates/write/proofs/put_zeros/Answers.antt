use mathlib.Core.Path.{refl, ap, ◌∙◌}
use native.Mathlib.Omega.{arith}
use lib.ListN.{replicate, length-take, length-drop}
use Rattle.write.specs.Write.{wrote_mid, wrote_as}
use Rattle.write.proofs.put_zeros.Goals as goal

pub returns : goal.returns
returns c =
    let zeros = c.fill.ensures.after (λ y e. e) in
    wrote_as (wrote_mid (omega arith) (omega arith)) refl (zeros ∙ ap (λ k. replicate k 0) (simp (length-take, length-drop) (omega arith)))
