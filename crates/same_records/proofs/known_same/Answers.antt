use Rattle.same_records.proofs.Marking.{same_by, unmarked}
use mathlib.Core.Path.{refl, ap, ◌∙◌}
use Rattle.reading.specs.Steps.{key_of}
use mathlib.Core.Bool.{true}
use native.Mathlib.Omega.{arith}
use Rattle.same_records.proofs.known_same.Goals as goal

pub returns-then-key : goal.returns-then-key
returns-then-key c =
    let m = c.in-Mixed-Mixed in
    let told = rw c.in-Some.is at c.requires in
    let unset = unmarked c.get.result _ refl c.eq.ensures (c.get.ensures.lookup.4 (omega arith) true) in
    let one = c.key-key.ensures ∙ ap key_of m.ensures.1 in
    let other = c.key.ensures ∙ ap key_of m.ensures'.1 in
    λ t. same_by c.args.g c.args.h c.in-Some.marks told _ _ one other c.if-key.true (unset t)
