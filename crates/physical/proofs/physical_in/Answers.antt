use Rattle.std.proofs.lemmas.Result.{err_from_is_err_and}
use Rattle.physical.proofs.Values.{no_sample, the_value}
use Rattle.physical.proofs.physical_in.Goals as goal

pub returns-in_err-s : goal.returns-in_err-s
returns-in_err-s c =
    let p = err_from_is_err_and c.from_residual.result c.from_residual.ensures.1 in
    rw (p.1, p.2) (λ x h. no_sample _ _ x (c.in_err-s.ensures.0 x h))

pub returns : goal.returns
returns c = rw (c.ok_or.ensures.value, c.at.ensures) (λ x h. the_value _ _ x _ (c.in_ok-s.ensures.0 x h) c.value.ensures)
