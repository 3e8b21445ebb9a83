use Rattle.std.proofs.lemmas.Result.{err_from_is_err_and}
use Rattle.walk.proofs.Channels.{then_left, then_right, then_fail, then_pass, is_link, is_none}
use Rattle.walk.specs.Steps.{bodies_first}
use Rattle.spec.specs.Block.{read_cn}
use Rattle.walk.proofs.links_before_fields.Goals as goal

pub returns-in_err-conversion : goal.returns-in_err-conversion
unfolding bodies_first read_cn
returns-in_err-conversion c =
    let p = err_from_is_err_and c.from_residual.result c.from_residual.ensures.1 in
    rw (p.1, p.2) (then_left c.conversion.ensures _ c.in_err-conversion.was)

pub returns-in_err-body : goal.returns-in_err-body
unfolding bodies_first read_cn
returns-in_err-body c =
    let p = err_from_is_err_and c.from_residual-in_err-body.result c.from_residual-in_err-body.ensures.1 in
    rw (p.1, p.2) (then_right c.conversion.ensures c.in_ok-conversion.was
    (then_left (rw c.link.ensures at c.body.ensures) _ c.in_err-body.was))

pub returns-then-dependency-ne0 : goal.returns-then-dependency-ne0
unfolding bodies_first read_cn
returns-then-dependency-ne0 c =
    rw (c.at.ensures, c.link-dependency.ensures)
    (then_right c.conversion.ensures c.in_ok-conversion.was
    (then_right (rw c.link.ensures at c.body.ensures) c.in_ok-body.was
    (then_fail _ _ _ _ (rw c.link-dependency.ensures at (is_link _ c.if-dependency-ne0.true)))))

pub returns : goal.returns
unfolding bodies_first read_cn
returns c =
    then_right c.conversion.ensures c.in_ok-conversion.was
    (then_right (rw c.link.ensures at c.body.ensures) c.in_ok-body.was
    (then_pass _ _ _ _ (rw c.link-dependency.ensures at (is_none _ c.if-dependency-ne0.false))
    (rw c.link-2.ensures at c.body-2.ensures)))
