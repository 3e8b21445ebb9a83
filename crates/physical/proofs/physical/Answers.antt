use Rattle.std.proofs.lemmas.Result.{err_from_is_err_and}
use Rattle.std.proofs.Math.Bridge.{le_prop}
use Rattle.std.proofs.Math.Logic.{∥∥₁_elim}
use Rattle.std.specs.Coded.{codes}
use Rattle.stored.proofs.Sampling.{row_at, logged_at}
use Rattle.physical.proofs.Values.{physical_refused, physical_found}
use Rattle.physical.proofs.physical.Goals as goal

pub physical_in-requires : goal.physical_in-requires
physical_in-requires c = ∥∥₁_elim c.in_ok-c.ensures (hlevel (codes, le_prop)) (λ a. row_at _ _ _ _ _ _ _ a)

pub returns-in_err-c : goal.returns-in_err-c
returns-in_err-c c =
    let p = err_from_is_err_and c.from_residual.result c.from_residual.ensures.1 in
    rw (p.1, p.2) (physical_refused _ _ _ _ _ c.in_err-c.ensures)

pub returns : goal.returns
returns c = ∥∥₁_elim c.in_ok-c.ensures (hlevel (codes, le_prop)) (λ a. physical_found _ _ _ _ _ _ _ a (c.physical_in.ensures _ (logged_at _ _ _ _ _ _ _ a)))
