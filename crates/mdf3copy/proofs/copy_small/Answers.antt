use mathlib.Core.Path.{sym, ◌∙◌, ap}
use native.Mathlib.Omega.{arith}
use Rattle.answers.specs.Outcomes.{CopyOutcome}
use Rattle.mdf3copy.proofs.Program.{program_refused, program_copies}
use Rattle.mdf3copy.proofs.copy_small.Goals as goal

pub returns-then-image-gt32768 : goal.returns-then-image-gt32768
returns-then-image-gt32768 c =
    let o = program_refused c.args.image.now c.args.out.now (omega (arith, c.if-image-gt32768.true)) in
    rw c.at.ensures (sym (ap (λ (x : CopyOutcome). x.given) o), sym (ap (λ (x : CopyOutcome). x.memory) o))

pub returns : goal.returns
returns c =
    let a = c.args in
    let o = program_copies a.image.now a.out.now (omega (arith, c.if-image-gt32768.false)) in
    let e = c.copy.ensures in
    (e.0 ∙ sym (ap (λ (x : CopyOutcome). x.given) o), e.1 ∙ sym (ap (λ (x : CopyOutcome). x.memory) o))
