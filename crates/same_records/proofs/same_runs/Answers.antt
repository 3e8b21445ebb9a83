use Rattle.answers.proofs.Laws.{same_equal}
use Rattle.same_records.proofs.Runs.{same_by}
use Rattle.same_records.proofs.same_runs.Goals.{then-size, else-size}
use borrow.Author.Tests.{eqb-true}
use mathlib.Core.Path.{sym, ◌∙◌}
use Rattle.same_records.proofs.same_runs.Goals as goal

pub returns-then-count : goal.returns-then-count
returns-then-count c =
    let a = c.args in
    elim c.if-size.branch [
      | then-size w ↦ λ e. same_by a.g a.h c.in-Run-Run.s c.in-Run-Run.t c.in-Run-Run.ensures c.in-Run-Run.ensures' (sym c.size.ensures.0 ∙ w.if-size.true ∙ c.size-2.ensures.0) (sym w.count.ensures.0 ∙ eqb-true _ _ (sym w.value-is ∙ c.if-count.true) ∙ w.count-then-size.ensures.0) (same_equal _ _ (sym c.same_part.ensures ∙ e))
      | else-size w ↦ absurd (w.if-size.false (eqb-true _ _ (sym w.value-is ∙ c.if-count.true)))
    ]
