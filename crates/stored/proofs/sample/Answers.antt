use Rattle.std.proofs.lemmas.Result.{err_from_is_err_and}
use Rattle.std.proofs.Math.Bridge.{le_prop}
use Rattle.std.proofs.Math.Logic.{∥∥₁_elim}
use Rattle.std.specs.Coded.{codes}
use Rattle.stored.proofs.Sampling.{sampling_refused, row_at, sample_is, logged_at, sampling_found}
use Rattle.stored.proofs.sample.Goals as goal

pub sample_in-requires : goal.sample_in-requires
sample_in-requires c = ∥∥₁_elim c.in_ok-c.ensures (hlevel (codes, le_prop)) (λ a. row_at _ _ _ _ _ _ _ a)

pub returns-in_err-c : goal.returns-in_err-c
returns-in_err-c c =
    let p = err_from_is_err_and c.from_residual.result c.from_residual.ensures.1 in
    rw (p.1, p.2) (sampling_refused _ _ _ _ _ c.in_err-c.ensures)

pub returns : goal.returns
returns c =
    let sample = c.sample_in.ensures in
    sample_is _ _ _ _ _ (∥∥₁_elim c.in_ok-c.ensures (hlevel (codes, le_prop)) (λ a. sampling_found _ _ _ _ _ _ _ a (sample.0 _ (logged_at _ _ _ _ _ _ _ a)))) sample.1
