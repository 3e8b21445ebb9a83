use Rattle.listing.proofs.Laws as l
use Rattle.answers.specs.Differences.{groups_alone}
use Rattle.reading.specs.Steps.{groups_left}
use Rattle.list_groups.proofs.Laws.{none_left, none_right, first_ahead, nothing_ahead, same_ahead, grown_on}
use mathlib.Core.Path.{sym, ap, ◌∙◌}
use Rattle.list_groups.proofs.list_groups.Goals as goal

pub loop-c-init : goal.loop-c-init
loop-c-init c =
    (c.requires.0, first_ahead c.requires.1 c.requires.2, l.begin c.args.list.now)

pub returns-in_default : goal.returns-in_default
returns-in_default c =
    let w = c.loop-c in
    let right = groups_left w.d in
    l.finish w.invariant.2 (l.grown_as c.list_alone.ensures (ap (λ k. groups_alone k right) (sym w.invariant.0) ∙ sym (none_left w.c.index (groups_left w.c) right c.in_default.ensures.steps.0)))

pub returns-in_default-next : goal.returns-in_default-next
returns-in_default-next c =
    let w = c.loop-c in
    l.finish w.invariant.2 (l.grown_as c.list_alone-in_default-next.ensures (sym (none_right w.c.index (groups_left w.c) (groups_left w.d) c.in_default-next.ensures.steps.0)))

-- a data group has ended: nothing is told any more
pub loop-c-preserved-in-loop-c : goal.loop-c-preserved-in-loop-c
loop-c-preserved-in-loop-c c =
    let went = c.in-Some.ensures.steps in
    let went-too = c.in-Some-next.ensures.steps in
    let o = c.loop-c in
    let known = nothing_ahead o.invariant.1 c.in-Some.g c.in-Some-next.h _ _ went went-too in
    let grown = grown_on o.invariant.1 c.in-Some.g c.in-Some-next.h _ _ went went-too o.invariant.0 o.invariant.2 (c.number.ensures ∙ went.2) c.list_group.ensures in
    (grown.0, known, grown.1)

-- neither has
pub loop-c-preserved : goal.loop-c-preserved
loop-c-preserved c =
    let went = c.in-Some.ensures.steps in
    let went-too = c.in-Some-next.ensures.steps in
    let o = c.loop-c in
    let known = same_ahead o.invariant.1 c.in-Some.g c.in-Some-next.h _ _ went went-too c.mark-told.result c.mark-told.ensures.0 c.mark-told.ensures.1 (sym c.ends_data_group-left.ensures ∙ c.if-left-2.false, sym c.ends_data_group-right.ensures ∙ c.if-right.false) in
    let grown = grown_on o.invariant.1 c.in-Some.g c.in-Some-next.h _ _ went went-too o.invariant.0 o.invariant.2 (c.number.ensures ∙ went.2) c.list_group.ensures in
    (grown.0, known, grown.1)

pub returns : goal.returns
returns c = l.stop c.loop-c.invariant.2 c.is_too_long.ensures c.loop-c-test.false
