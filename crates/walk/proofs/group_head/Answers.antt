use Rattle.std.proofs.lemmas.Result.{err_from_is_err_and}
use Rattle.walk.proofs.Channels.{then_left, then_right, then_fail, then_pass, is_link, is_none, other_left, none_left, any_left}
use Rattle.spec.proofs.Answers.{pass, fail}
use Rattle.walk.specs.Steps.{group_head}
use Rattle.spec.specs.Block.{read_cg}
use mathlib.Core.Path.{sym, ◌∙◌}
use Rattle.walk.proofs.group_head.Goals as goal
use Rattle.walk.proofs.group_head.Goals.{else-u16-eq0-via-then-u16-eq0+else-u32-ne0, else-u16-eq0-via-else-u16-eq0}

pub returns-then-reduction-ne0 : goal.returns-then-reduction-ne0
unfolding group_head read_cg
returns-then-reduction-ne0 c = rw (c.at.ensures, c.reduction-reduction.ensures.0) (then_fail _ _ _ _ (rw c.reduction-reduction.ensures.1 at (is_link _ c.if-reduction-ne0.true)))

pub returns-then-not-id_passes : goal.returns-then-not-id_passes
unfolding group_head read_cg
returns-then-not-id_passes c =
    rw c.at-then-not-id_passes.ensures
    (then_pass _ _ _ _ (rw c.reduction-reduction.ensures.1 at (is_none _ c.if-reduction-ne0.false))
    (then_fail _ _ _ _ (rw c.u16.ensures.0 at (sym c.id_passes.ensures ∙ c.if-not-id_passes.true))))

pub returns-in_err-body : goal.returns-in_err-body
unfolding group_head read_cg
returns-in_err-body c =
    let p = err_from_is_err_and c.from_residual.result c.from_residual.ensures.1 in
    rw (p.1, p.2) (then_pass _ _ _ _ (rw c.reduction-reduction.ensures.1 at (is_none _ c.if-reduction-ne0.false))
    (then_pass _ _ _ _ (rw c.u16.ensures.0 at (sym c.id_passes.ensures ∙ c.if-not-id_passes.false))
    (then_left (rw c.link.ensures at c.body.ensures) _ c.in_err-body.was)))

pub returns-then-u32-ne0 : goal.returns-then-u32-ne0
unfolding group_head read_cg
returns-then-u32-ne0 c =
    rw c.at-then-u32-ne0.ensures
    (then_pass _ _ _ _ (rw c.reduction-reduction.ensures.1 at (is_none _ c.if-reduction-ne0.false))
    (then_pass _ _ _ _ (rw c.u16.ensures.0 at (sym c.id_passes.ensures ∙ c.if-not-id_passes.false))
    (then_right (rw c.link.ensures at c.body.ensures) c.in_ok-body.was
    (sym (fail _ _ _ (rw (c.u16-2.ensures.0, c.u32.ensures.0) at (other_left _ _ c.if-u16-eq0.true c.if-u32-ne0.true)))))))

pub returns : goal.returns
unfolding group_head read_cg
returns c =
    then_pass _ _ _ _ (rw c.reduction-reduction.ensures.1 at (is_none _ c.if-reduction-ne0.false))
    (then_pass _ _ _ _ (rw c.u16.ensures.0 at (sym c.id_passes.ensures ∙ c.if-not-id_passes.false))
    (then_right (rw c.link.ensures at c.body.ensures) c.in_ok-body.was
    (elim c.else-u16-eq0.branch [
      | else-u16-eq0-via-then-u16-eq0+else-u32-ne0 w ↦ sym (pass _ _ _ (none_left _ _ (sym w.u32.ensures.0 ∙ w.if-u32-ne0.false)))
      | else-u16-eq0-via-else-u16-eq0 w ↦ sym (pass _ _ _ (any_left _ _ (rw c.u16-2.ensures.0 at w.if-u16-eq0.false)))
    ])))
