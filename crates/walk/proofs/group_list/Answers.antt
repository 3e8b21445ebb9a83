use Rattle.std.proofs.lemmas.Result.{err_from_is_err_and}
use Rattle.walk.proofs.Channels.{other_left, none_left, any_left}
use Rattle.walk.proofs.Tables.{listing_as, allowed_is, listing_goes}
use Rattle.walk.proofs.GroupList.{groups_end, groups_full, groups_second, groups_shut, groups_stop, groups_go}
use Rattle.spec.specs.Block.{cg_kind}
use Rattle.image.proofs.Blocks.{seen_shut, opened_stands, if_open}
use native.Mathlib.Omega.{arith}
use mathlib.Core.Path.{sym, ◌∙◌}
use lib.ListN.{length-set}
use Prim.Native.Nat.{◌-◌, ◌<◌}
use Rattle.walk.proofs.group_list.Goals as goal
use Rattle.walk.proofs.group_list.Goals.{else-mode-eq0-via-then-mode-eq0+else-n-ne0, else-mode-eq0-via-else-mode-eq0}

pub returns-then-c-eq-MOST_GROUPS : goal.returns-then-c-eq-MOST_GROUPS
returns-then-c-eq-MOST_GROUPS c =
    let l = c.loop-c in
    rw c.at.ensures (sym (l.invariant.5.agrees ∙ groups_full _ _ _ _ _ _ _ _ c.loop-c-test.true c.if-c-eq-MOST_GROUPS.true), tt)

pub returns-then-n-ne0 : goal.returns-then-n-ne0
returns-then-n-ne0 c =
    let l = c.loop-c in
    let below : l.c.cgs < 1024 = omega (arith, l.invariant.3, c.if-c-eq-MOST_GROUPS.false) in
    rw c.at-then-n-ne0.ensures
    (sym (l.invariant.5.agrees ∙ groups_second _ _ _ _ _ _ _ _ c.loop-c-test.true below (allowed_is l.invariant.5 ∙ other_left _ _ c.if-mode-eq0.true c.if-n-ne0.true)), tt)

pub returns-in_default : goal.returns-in_default
returns-in_default c =
    let l = c.loop-c in
    let below : l.c.cgs < 1024 = omega (arith, l.invariant.3, c.if-c-eq-MOST_GROUPS.false) in
    let allowed = allowed_is l.invariant.5 ∙ elim c.else-mode-eq0.branch [
      | else-mode-eq0-via-then-mode-eq0+else-n-ne0 w ↦ none_left _ _ w.if-n-ne0.false
      | else-mode-eq0-via-else-mode-eq0 w ↦ any_left _ _ w.if-mode-eq0.false
    ] in
    let is = c.refused.ensures _ c.in_default.is in
    rw is (sym (l.invariant.5.agrees ∙ groups_shut _ _ _ _ _ _ _ _ c.loop-c-test.true below allowed (seen_shut _ c.open-opened.ensures.0 c.in_default.is)), tt)

pub returns-in_err-c : goal.returns-in_err-c
returns-in_err-c c =
    let l = c.loop-c in
    let s = opened_stands cg_kind _ _ _ c.open-opened.ensures.0 c.in-Open.is in
    let i = if_open _ c.open-opened.ensures.1 c.in-Open.is in
    let below : l.c.cgs < 1024 = omega (arith, l.invariant.3, c.if-c-eq-MOST_GROUPS.false) in
    let allowed = allowed_is l.invariant.5 ∙ elim c.else-mode-eq0.branch [
      | else-mode-eq0-via-then-mode-eq0+else-n-ne0 w ↦ none_left _ _ w.if-n-ne0.false
      | else-mode-eq0-via-else-mode-eq0 w ↦ any_left _ _ w.if-mode-eq0.false
    ] in
    let met = rw (i, c.in_err-c.was, (rw i at c.known.ensures) ∙ sym (l.invariant.5.uses _)) at c.group.ensures.0 in
    let p = err_from_is_err_and c.from_residual.result c.from_residual.ensures.1 in
    rw (p.1, p.2) (sym (l.invariant.5.agrees ∙ groups_stop _ _ _ _ _ _ _ _ c.loop-c-test.true below allowed _ s met), tt)

pub loop-c-preserved : goal.loop-c-preserved
loop-c-preserved c =
    let l = c.loop-c in
    let a = c.args in
    let s = opened_stands cg_kind _ _ _ c.open-opened.ensures.0 c.in-Open.is in
    let i = if_open _ c.open-opened.ensures.1 c.in-Open.is in
    let below : l.c.cgs < 1024 = omega (arith, l.invariant.3, c.if-c-eq-MOST_GROUPS.false) in
    let allowed = allowed_is l.invariant.5 ∙ elim c.else-mode-eq0.branch [
      | else-mode-eq0-via-then-mode-eq0+else-n-ne0 w ↦ none_left _ _ w.if-n-ne0.false
      | else-mode-eq0-via-else-mode-eq0 w ↦ any_left _ _ w.if-mode-eq0.false
    ] in
    let few : l.c.cgs - a.start.cgs < 1024 = omega arith in
    let past = rw (i, c.in_ok-c.was) at c.group.ensures.1 in
    let met = rw (i, c.in_ok-c.was, (rw i at c.known.ensures) ∙ sym (l.invariant.5.uses _)) at c.group.ensures.0 in
    let go = groups_go _ _ _ _ _ _ _ _ c.loop-c-test.true below allowed _ s met in
    let more = listing_goes l.invariant.5 l.invariant.0 few c.slot.result (rw i at c.slot.ensures) go in (
      rw length-set l.invariant.0,
      past.2 ∙ l.invariant.1,
      omega (arith, past.3, l.invariant.2),
      omega (arith, past.3, below),
      past.4,
      listing_as more (omega (arith, past.3, l.invariant.2)) (sym past.0) (sym past.1) (sym past.3),
    )

pub returns : goal.returns
returns c =
    let l = c.loop-c in
    (sym (l.invariant.5.agrees ∙ groups_end _ _ _ _ _ _ _ _ c.loop-c-test.false), (l.invariant.1, l.invariant.2, l.invariant.3, l.invariant.4))
