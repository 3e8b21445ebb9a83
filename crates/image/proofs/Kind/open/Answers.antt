use Rattle.image.proofs.Blocks.{stands}
use mathlib.Core.Path.{sym, ◌∙◌}
use Rattle.image.proofs.Kind.open.Goals as goal

pub invariant_of-result : goal.invariant_of-result
invariant_of-result g c =
    let s = stands _ _ _ _ (sym c.in-Open.is ∙ c.open_block.ensures) in
    record { holds = record { inside = s.inside; least = rw c.LEAST.ensures at s.least } }
