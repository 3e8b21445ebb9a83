use Rattle.answers.proofs.Laws.{same_equal}
use Rattle.same_records.proofs.Marking.{same_on, mark_on}
use lib.ListN.{length-set}
use mathlib.Core.Path.{sym, ◌∙◌}
use mathlib.Core.Bool.{true}
use native.Mathlib.Omega.{arith}
use Rattle.same_records.proofs.mark_logs.Goals as goal

-- they differ
pub loop-p-preserved-then-not-same_part : goal.loop-p-preserved-then-not-same_part
loop-p-preserved-then-not-same_part c =
    let o = c.loop-p.invariant in
    let went = c.in-Some.ensures.steps in
    (length-set c.loop-p.differs c.in-Some.p.key true ∙ o.0, mark_on o.1 _ _ went.0 c.in_ok-q.ensures.steps.0 c.if-p-q.false (omega (arith, went.1, o.0)))

-- they are the same
pub loop-p-preserved : goal.loop-p-preserved
loop-p-preserved c =
    let o = c.loop-p.invariant in
    (o.0, same_on o.1 _ _ c.in-Some.ensures.steps.0 c.in_ok-q.ensures.steps.0 c.if-p-q.false (same_equal _ _ (sym c.same_part.ensures ∙ c.if-not-same_part.false)))
