use Rattle.std.proofs.lemmas.Result.{err_from_is_err_and}
use Rattle.walk.proofs.Groups.{group_stop, group_go}
use Rattle.spec.specs.Answer.{accepted}
use native.Mathlib.Omega.{arith}
use mathlib.Core.Path.{◌∙◌, ap}
use Rattle.walk.proofs.group.Goals as goal

pub returns-in_err-group_head : goal.returns-in_err-group_head
returns-in_err-group_head c =
    let p = err_from_is_err_and c.from_residual.result c.from_residual.ensures.1 in
    rw (p.1, p.2) (group_stop _ _ _ _ _ c.group_head.ensures c.in_err-group_head.was, tt)

pub returns-in_err-d : goal.returns-in_err-d
returns-in_err-d c =
    let down = c.down-first.ensures in
    let met = rw (c.u16.ensures.0, down.0, down.1, down.4, c.link.ensures, c.in_err-d.was) at c.channel_list.ensures.0 in
    let p = err_from_is_err_and c.from_residual-in_err-d.result c.from_residual-in_err-d.ensures.1 in
    rw (p.1, p.2) (met ∙ group_go _ _ _ _ _ c.group_head.ensures c.in_ok-group_head.was, tt)

pub returns : goal.returns
returns c =
    let down = c.down-first.ensures in
    let past = c.past_cg.ensures in
    let only = rw c.in_ok-d.was at c.channel_list.ensures.1 in
    let met = rw (c.u16.ensures.0, down.0, down.1, down.4, c.link.ensures, c.in_ok-d.was) at c.channel_list.ensures.0 in (
      ap accepted past.4 ∙ met ∙ group_go _ _ _ _ _ c.group_head.ensures c.in_ok-group_head.was,
      (rw c.link-2.ensures at past.0, rw c.link-2.ensures at past.1, past.2 ∙ only.0 ∙ down.2, omega (arith, past.3, only.1, down.3), omega (arith, past.4, only.3)),
    )
