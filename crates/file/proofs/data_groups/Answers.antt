use Rattle.std.proofs.lemmas.Result.{err_from_is_err_and}
use Rattle.file.proofs.DataGroups.{data_groups_end, data_groups_full, data_groups_shut, data_groups_stop, data_groups_go}
use Rattle.spec.specs.Block.{dg_kind}
use Rattle.image.proofs.Blocks.{seen_shut, opened_stands, if_open}
use native.Mathlib.Omega.{arith}
use mathlib.Core.Path.{sym, ◌∙◌}
use Prim.Native.Nat.{◌<◌}
use Rattle.file.proofs.data_groups.Goals as goal

pub returns-then-c-eq-MOST_GROUPS : goal.returns-then-c-eq-MOST_GROUPS
returns-then-c-eq-MOST_GROUPS c =
    let l = c.loop-c in
    rw c.at.ensures (sym (l.invariant.3 ∙ data_groups_full _ _ _ _ _ _ c.loop-c-test.true c.if-c-eq-MOST_GROUPS.true))

pub returns-in_default : goal.returns-in_default
returns-in_default c =
    let l = c.loop-c in
    let below : l.c.dgs < 1024 = omega (arith, l.invariant.0, c.if-c-eq-MOST_GROUPS.false) in
    let is = c.refused.ensures _ c.in_default.is in
    rw is (sym (l.invariant.3 ∙ data_groups_shut _ _ _ _ _ _ c.loop-c-test.true below (seen_shut _ c.open-opened.ensures.0 c.in_default.is)))

pub returns-in_err-c : goal.returns-in_err-c
returns-in_err-c c =
    let l = c.loop-c in
    let s = opened_stands dg_kind _ _ _ c.open-opened.ensures.0 c.in-Open.is in
    let i = if_open _ c.open-opened.ensures.1 c.in-Open.is in
    let below : l.c.dgs < 1024 = omega (arith, l.invariant.0, c.if-c-eq-MOST_GROUPS.false) in
    let met = rw (i, c.in_err-c.was) at c.data_group.ensures.0 in
    let p = err_from_is_err_and c.from_residual.result c.from_residual.ensures.1 in
    rw (p.1, p.2) (sym (l.invariant.3 ∙ data_groups_stop _ _ _ _ _ _ c.loop-c-test.true below _ s met))

pub loop-c-preserved : goal.loop-c-preserved
loop-c-preserved c =
    let l = c.loop-c in
    let s = opened_stands dg_kind _ _ _ c.open-opened.ensures.0 c.in-Open.is in
    let i = if_open _ c.open-opened.ensures.1 c.in-Open.is in
    let below : l.c.dgs < 1024 = omega (arith, l.invariant.0, c.if-c-eq-MOST_GROUPS.false) in
    let past = rw (i, c.in_ok-c.was) at c.data_group.ensures.1 in
    let met = rw (i, c.in_ok-c.was) at c.data_group.ensures.0 in
    let go = data_groups_go _ _ _ _ _ _ c.loop-c-test.true below _ s met in
    (omega (arith, past.2, below), past.3, past.4, rw (past.0, past.1, past.2) (l.invariant.3 ∙ go))

pub returns : goal.returns
returns c =
    let l = c.loop-c in
    sym (l.invariant.3 ∙ data_groups_end _ _ _ _ _ _ c.loop-c-test.false)
