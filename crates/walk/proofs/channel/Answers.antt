use Rattle.std.proofs.lemmas.Result.{err_from_is_err_and}
use Rattle.walk.proofs.Channels.{then_left, then_right, channel_steps}
use Rattle.spec.specs.Block.{read_cn}
use mathlib.Core.Path.{sym, ◌∙◌}
use Rattle.walk.proofs.channel.Goals as goal

pub returns-in_err-links_before_fields : goal.returns-in_err-links_before_fields
returns-in_err-links_before_fields c =
    let p = err_from_is_err_and c.from_residual.result c.from_residual.ensures.1 in
    rw (p.1, p.2) (then_left c.links_before_fields.ensures _ c.in_err-links_before_fields.was ∙ sym (channel_steps _ _ _))

pub returns-in_err-fields_pass : goal.returns-in_err-fields_pass
unfolding read_cn
returns-in_err-fields_pass c =
    let p = err_from_is_err_and c.from_residual-in_err-fields_pass.result c.from_residual-in_err-fields_pass.ensures.1 in
    rw (p.1, p.2) (then_right c.links_before_fields.ensures c.in_ok-links_before_fields.was
    (then_left c.fields_pass.ensures _ c.in_err-fields_pass.was)
    ∙ sym (channel_steps _ _ _))

pub returns : goal.returns
unfolding read_cn
returns c =
    then_right c.links_before_fields.ensures c.in_ok-links_before_fields.was
    (then_right c.fields_pass.ensures c.in_ok-fields_pass.was
    c.links_after_fields.ensures)
    ∙ sym (channel_steps _ _ _)
