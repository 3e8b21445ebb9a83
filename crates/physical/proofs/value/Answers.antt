use Rattle.physical.proofs.Values.{no_number, the_number}
use Rattle.physical.proofs.value.Goals as goal

pub returns-in_err-x : goal.returns-in_err-x
returns-in_err-x c = rw c.from_residual.ensures (no_number _ _ c.in_err-x.ensures)

pub returns : goal.returns
returns c = the_number _ _ _ c.in_ok-x.ensures (rw (← c.conversion.ensures.is.is) c.convert.ensures)
