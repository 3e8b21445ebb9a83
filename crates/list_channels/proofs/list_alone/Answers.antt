use Rattle.listing.proofs.Laws as l
use Rattle.answers.specs.Differences.{entry}
use Rattle.list_channels.proofs.Channels.{alone_none, alone_next}
use Prim.Native.Nat.{◌+◌}
use mathlib.Core.List.{[], ◌∷◌}
use mathlib.Core.Path.{ap, ◌∙◌}
use Rattle.list_channels.proofs.list_alone.Goals as goal

pub loop-x-init : goal.loop-x-init
loop-x-init c = rw c.into_iter-x-iterator.ensures.into_iter_gives (l.begin c.args.list.now)

pub returns-then-is_too_long : goal.returns-then-is_too_long
returns-then-is_too_long c = l.stop c.loop-x.invariant c.is_too_long.ensures c.if-is_too_long.true

pub loop-x-preserved : goal.loop-x-preserved
loop-x-preserved c =
    let went = c.in-Some.ensures.steps in
    let group = c.args.group in
    let i = c.loop-x.x-iterator.index + 1 in
    l.turn c.loop-x.invariant (entry 3 group i 0 ∷ []) (alone_next _ _ _ _ went.4 (ap (λ k. k + 1) went.6)) (l.grown_as c.entry.ensures (ap (λ k. entry 3 group (k + 1) 0 ∷ []) (c.number.ensures.0 ∙ went.5)))

pub returns : goal.returns
returns c = l.end c.loop-x.invariant (alone_none _ _ _ _ c.in-None.ensures.steps.0)
