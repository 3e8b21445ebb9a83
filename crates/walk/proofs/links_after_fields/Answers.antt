use Rattle.std.proofs.lemmas.Result.{err_from_is_err_and}
use Rattle.walk.proofs.Channels.{then_left, then_right}
use Rattle.walk.specs.Steps.{bodies_last}
use Rattle.spec.specs.Block.{read_cn}
use Rattle.walk.proofs.links_after_fields.Goals as goal

pub returns-in_err-body : goal.returns-in_err-body
unfolding bodies_last read_cn
returns-in_err-body c =
    let p = err_from_is_err_and c.from_residual.result c.from_residual.ensures.1 in
    rw (p.1, p.2) (then_left (rw c.link.ensures at c.body.ensures) _ c.in_err-body.was)

pub returns : goal.returns
unfolding bodies_last read_cn
returns c =
    then_right (rw c.link.ensures at c.body.ensures) c.in_ok-body.was
    (rw c.link-2.ensures at c.body-2.ensures)
