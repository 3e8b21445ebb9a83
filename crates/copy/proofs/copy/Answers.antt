use Rattle.std.proofs.lemmas.Result.{err_from_is_err_and}
use Rattle.refusal.proofs.Fitting.{within}
use Rattle.answers.proofs.Laws.{accepted_well_formed}
use Rattle.reading.proofs.Promise.{known_bytes}
use Rattle.put_channels.proofs.Sums.{capped_exact}
use Rattle.copy.proofs.Outcomes.{copy_refused, copy_unfit, copy_made}
use mathlib.Core.Path.{sym}
use native.Mathlib.Omega.{arith}
use Rattle.copy.proofs.copy.Goals as goal

pub returns-in_err-f : goal.returns-in_err-f
returns-in_err-f c =
    let p = err_from_is_err_and c.from_residual.result c.from_residual.ensures.1 in
    rw (p.1, p.2) (copy_refused c.args.image.now c.args.out.now c.in_err-f.ensures.1)

pub returns-in_err-fits : goal.returns-in_err-fits
returns-in_err-fits c =
    let p = err_from_is_err_and c.from_residual-in_err-fits.result c.from_residual-in_err-fits.ensures.1 in
    let e = c.in_ok-f.ensures.1 in
    let s = rw e.0 at c.needed-sum.ensures in
    rw (p.1, p.2) (copy_unfit c.args.image.now c.args.out.now _ e.1 _ s.length (sym c.in_err-fits.ensures))

pub put_file-requires : goal.put_file-requires
put_file-requires c =
    let sum = c.needed-sum.ensures in
    let fit = within _ _ (sym c.in_ok-fits.ensures) in
    let exact = capped_exact sum.length fit.0 in
    (sum.count (omega (arith, exact, fit.0)), omega (arith, exact, fit.0), omega (arith, exact, fit.1))

pub returns : goal.returns
returns c =
    let a = c.args in
    let e = c.in_ok-f.ensures.1 in
    let s = rw e.0 at c.needed-sum.ensures in
    let w = rw e.0 at c.put_file.ensures in
    let ok = accepted_well_formed a.image.now (known_bytes a.image.now (λ i. omega (arith, c.type_inv.image i))) _ e.1 in
    copy_made a.image.now a.out.now _ e.1 _ s.length ok (sym c.in_ok-fits.ensures) w
