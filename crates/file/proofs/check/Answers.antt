use Rattle.std.proofs.lemmas.Result.{err_from_is_err_and}
use Rattle.file.proofs.Files.{check_long, check_short, check_ident, check_file}
use Rattle.file.proofs.check.Goals as goal

pub returns-then-image-gt-LONGEST : goal.returns-then-image-gt-LONGEST
returns-then-image-gt-LONGEST c = rw c.at.ensures (check_long _ c.if-image-gt-LONGEST.true)

pub returns-then-image-lt-LEAST : goal.returns-then-image-lt-LEAST
returns-then-image-lt-LEAST c = rw c.at-then-image-lt-LEAST.ensures (check_short _ c.if-image-gt-LONGEST.false c.if-image-lt-LEAST.true)

pub returns-in_err-ident : goal.returns-in_err-ident
returns-in_err-ident c =
    let p = err_from_is_err_and c.from_residual.result c.from_residual.ensures.1 in
    rw (p.1, p.2) (check_ident _ c.if-image-gt-LONGEST.false c.if-image-lt-LEAST.false c.ident.ensures c.in_err-ident.was)

pub returns : goal.returns
returns c = check_file _ c.if-image-gt-LONGEST.false c.if-image-lt-LEAST.false c.ident.ensures c.in_ok-ident.was c.header.ensures
