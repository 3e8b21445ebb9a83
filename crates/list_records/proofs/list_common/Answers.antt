use Rattle.listing.proofs.Laws as l
use Rattle.answers.specs.Differences.{entry, unless, same_bytes, difference}
use Rattle.reading.specs.Steps.{records_left}
use Rattle.list_records.proofs.Common.{none_common, common_next}
use mathlib.Core.Logic.{◌⊎◌, inl, inr}
use mathlib.Core.List.{[]}
use mathlib.Core.Path.{◌≡◌, ap}
use Rattle.list_records.proofs.list_common.Goals as goal

pub loop-item-init : goal.loop-item-init
loop-item-init c =
    let z = c.zip.ensures in
    rw (c.into_iter-item-iterator.ensures.into_iter_gives, c.enumerate-item-items.ensures.count, c.enumerate-item-items.ensures.source, z.first, z.second) (l.begin c.args.list.now)

pub returns-then-is_too_long : goal.returns-then-is_too_long
returns-then-is_too_long c = l.stop c.loop-item.invariant c.is_too_long.ensures c.if-is_too_long.true

pub loop-item-preserved : goal.loop-item-preserved
loop-item-preserved c =
    let went = c.in-Some.ensures.steps in
    let group = c.args.group in
    let i = c.loop-item.item-iterator.count in
    let x = c.in-Some.p.bytes.now in
    let y = c.in-Some.q.bytes.now in
    l.turn c.loop-item.invariant (unless (same_bytes x y) (entry 4 group i (difference x y))) (common_next _ _ _ went.0.0.0 went.0.1.0 went.2) (l.grown_as c.list_record.ensures (ap (λ k. unless (same_bytes x y) (entry 4 group k (difference x y))) went.1))

pub returns : goal.returns
returns c =
    let i = c.loop-item.item-iterator in
    let ended : (records_left i.iter.a ≡ []) ⊎ (records_left i.iter.b ≡ []) = elim c.in-None.ensures.steps.0 [
      | inl w ↦ inl w.1.0
      | inr w ↦ inr w.1.0
    ] in
    l.end c.loop-item.invariant (none_common _ _ _ _ ended)
