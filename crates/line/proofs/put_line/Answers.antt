use mathlib.Core.Path.{◌≡◌, ◌∙◌}
use native.Mathlib.Omega.{arith}
use lib.ListN.{length, length-set}
use Rattle.write.specs.Write.{wrote_length}
use Rattle.line.proofs.Digits.{line_written}
use Rattle.line.proofs.put_line.Goals as goal

pub put_decimal-end-requires : goal.put_decimal-end-requires
put_decimal-end-requires c = simp length-set (omega arith)

pub bounds-out-end : goal.bounds-out-end
bounds-out-end c =
    let long : length c.put_decimal-end.new.out ≡ length c.args.out.now = wrote_length c.put_decimal-end.ensures.0
    ∙ simp length-set (wrote_length c.put_decimal-blank.ensures.0) in
    omega (arith, long)

pub shape_of-out : goal.shape_of-out
shape_of-out c =
    let long : length c.put_decimal-end.new.out ≡ length c.args.out.now = wrote_length c.put_decimal-end.ensures.0
    ∙ simp length-set (wrote_length c.put_decimal-blank.ensures.0) in
    simp length-set long

pub returns : goal.returns
returns c =
    let place = c.put_decimal-end.ensures in
    let number = c.put_decimal-blank.ensures in
    let w = line_written _ _ _ _ number.0 number.1 place.0 place.1 in
    (w.0, w.1, omega arith)
