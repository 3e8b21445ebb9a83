use Rattle.std.proofs.lemmas.Result.{err_from_is_err_and}
use mathlib.Core.Path.{refl}
use Rattle.spec.specs.Block.{hd_kind}
use Rattle.image.proofs.Blocks.{seen_shut, opened_stands}
use Rattle.position.proofs.Files.{header_opens, file_stands, file_accepted, rejected_reading}
use Rattle.reading.proofs.seeking.open.Goals as goal

pub returns-in_err-check : goal.returns-in_err-check
returns-in_err-check c =
    let p = err_from_is_err_and c.from_residual.result c.from_residual.ensures.1 in
    let e = rw c.in_err-check.was at c.check.ensures in
    rw (p.1, p.2) (e, rejected_reading _ e)

pub returns-in_default : goal.returns-in_default
returns-in_default c =
    let e = rw c.in_ok-check.was at c.check.ensures in
    absurd (header_opens _ e (seen_shut (λ b. b.span) c.open-opened.ensures.0 c.in_default.is))

pub invariant_of-result-clause-stands : goal.invariant_of-result-clause-stands
invariant_of-result-clause-stands c =
    let e = rw c.in_ok-check.was at c.check.ensures in
    ∣ file_stands _ e _ (opened_stands hd_kind _ _ (λ b. b.span) c.open-opened.ensures.0 c.in-Open.is) ∣₁

pub returns : goal.returns
returns c =
    let e = rw c.in_ok-check.was at c.check.ensures in
    let f = file_stands _ e _ (opened_stands hd_kind _ _ (λ b. b.span) c.open-opened.ensures.0 c.in-Open.is) in
    (e, (refl, file_accepted _ _ f))
