use Rattle.listing.proofs.Laws as l
use Rattle.answers.specs.Differences.{entry}
use Rattle.list_groups.proofs.Laws.{alone_none, alone_next}
use mathlib.Core.List.{[], ◌∷◌}
use mathlib.Core.Path.{ap, ◌∙◌}
use Rattle.list_groups.proofs.list_alone.Goals as goal

pub loop-g-init : goal.loop-g-init
loop-g-init c = rw c.into_iter-g-iterator.ensures.into_iter_gives (l.begin c.args.list.now)

pub returns-then-is_too_long : goal.returns-then-is_too_long
returns-then-is_too_long c = l.stop c.loop-g.invariant c.is_too_long.ensures c.if-is_too_long.true

pub loop-g-preserved : goal.loop-g-preserved
loop-g-preserved c =
    let went = c.in-Some.ensures.steps in
    let v = c.loop-g in
    l.turn v.invariant (entry 2 v.g-iterator.index 0 0 ∷ []) (alone_next _ _ went.3 went.4) (l.grown_as c.entry.ensures (ap (λ k. entry 2 k 0 0 ∷ []) (c.number.ensures ∙ went.2)))

pub returns : goal.returns
returns c = l.end c.loop-g.invariant (alone_none _ _ c.in-None.ensures.steps.0)
