use Rattle.std.proofs.lemmas.Result.{err_from_is_err_and}
use Rattle.compare.proofs.Outcomes.{opened, first_refused, second_refused, unfit, nothing_listed, all_written}
use mathlib.Core.Path.{sym}
use Rattle.compare.proofs.compare.Goals as goal

pub returns-in_err-f : goal.returns-in_err-f
returns-in_err-f c =
    let p = err_from_is_err_and c.from_residual.result c.from_residual.ensures.1 in
    rw (p.1, p.2) (first_refused _ _ _ _ c.in_err-f.ensures.1)

pub returns-in_err-g : goal.returns-in_err-g
returns-in_err-g c =
    let p = err_from_is_err_and c.from_residual-in_err-g.result c.from_residual-in_err-g.ensures.1 in
    rw (p.1, p.2) (second_refused _ _ _ _ (opened c.in_ok-f.f c.in_ok-f.ensures.1) _ c.in_err-g.ensures.1)

pub returns-in_err-fits : goal.returns-in_err-fits
returns-in_err-fits c =
    let p = err_from_is_err_and c.from_residual-in_err-fits.result c.from_residual-in_err-fits.ensures.1 in
    rw (p.1, p.2) (unfit _ _ _ _ (opened c.in_ok-f.f c.in_ok-f.ensures.1) _ (opened c.in_ok-g.g c.in_ok-g.ensures.1) _ c.list_length-length.ensures _ (sym c.in_err-fits.ensures))

pub returns-then-length-eq0 : goal.returns-then-length-eq0
returns-then-length-eq0 c =
    nothing_listed _ _ _ _ (opened c.in_ok-f.f c.in_ok-f.ensures.1) _ (opened c.in_ok-g.g c.in_ok-g.ensures.1) _ c.list_length-length.ensures (sym c.in_ok-fits.ensures) c.if-length-eq0.true

pub returns : goal.returns
returns c =
    all_written _ _ _ _ (opened c.in_ok-f.f c.in_ok-f.ensures.1) _ (opened c.in_ok-g.g c.in_ok-g.ensures.1) _ c.list_length-length.ensures (sym c.in_ok-fits.ensures) c.list_all.ensures
