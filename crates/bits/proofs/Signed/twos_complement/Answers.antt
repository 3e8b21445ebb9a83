use mathlib.Core.Path.{ap, ◌∙◌}
use mir.Syntax.{w64}
use mir.Val.{of_z}
use Rattle.bits.proofs.Signs.{kept, twos_is}
use Rattle.bits.proofs.Signed.twos_complement.Goals as goal

pub returns : goal.returns
returns c =
    let v = c.value in
    let x = c.args.self in
    c.cast_unsigned.ensures ∙ ap (of_z w64) (kept v.result v.type_inv v.ensures) ∙ twos_is x.width x.bits x.fits.1 x.fits.2
