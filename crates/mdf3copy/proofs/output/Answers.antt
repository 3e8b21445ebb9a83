use mathlib.Core.Path.{◌≡◌, sym, ◌∙◌, ap}
use native.Mathlib.Omega.{arith}
use lib.ListN.{length}
use Rattle.copy.specs.Copying.{outcome}
use Rattle.reading.proofs.Promise.{known_bytes}
use Rattle.mdf3copy.proofs.Program.{copy_written, line_written}
use Rattle.mdf3copy.proofs.output.Goals as goal

pub returns-in-Ok : goal.returns-in-Ok
returns-in-Ok c =
    let a = c.args in
    let e = c.copy_small.ensures in
    let l : length a.out.now ≡ 32768 = omega arith in
    let bytes = known_bytes a.image.now (λ i. omega (arith, c.type_inv.image i)) in
    let q : length c.copy_small.new.out ≡ 32768 = omega arith in
    copy_written a.image.now a.out.now l _ bytes (sym (ap outcome c.in-Ok.is) ∙ e.0) e.1 q

pub returns-in-Err : goal.returns-in-Err
returns-in-Err c =
    let a = c.args in
    let e = c.copy_small.ensures in
    let w = c.put_line.ensures in
    let l : length a.out.now ≡ 32768 = omega arith in
    let q : length c.copy_small.new.out ≡ 32768 = omega arith in
    let s = rw (c.from.ensures, c.number.ensures) at w.0 in
    let k = rw (c.from.ensures, c.number.ensures) at w.1 in
    line_written a.image.now a.out.now l _ _ _ (sym (ap outcome c.in-Err.is) ∙ e.0) e.1 q s k w.2
