use Rattle.listing.proofs.Laws as l
use Rattle.answers.specs.Differences.{entry, unless, channel_entries}
use Rattle.reading.specs.Steps.{channels_left}
use Rattle.list_channels.proofs.Channels.{both_next, next_alone, still_abreast, rest_alone}
use Prim.Native.Nat.{◌+◌}
use mathlib.Core.List.{◌++◌}
use mathlib.Core.Path.{◌≡◌, ap, ◌∙◌}
use Rattle.list_channels.proofs.list_channels.Goals as goal
use Rattle.list_channels.proofs.list_channels.Goals.{in-Some-next, in-None-next}

pub loop-u-init : goal.loop-u-init
loop-u-init c = rw c.into_iter-u-iterator.ensures.into_iter_gives (λ h. c.requires, l.begin c.args.list.now)

pub returns-then-is_too_long : goal.returns-then-is_too_long
returns-then-is_too_long c = l.stop c.loop-u.invariant.1 c.is_too_long.ensures c.if-is_too_long.true

pub loop-u-preserved : goal.loop-u-preserved
loop-u-preserved c =
    let went = c.in-Some.ensures.steps in
    let same = c.match-next-2.same in
    let group = c.args.group in
    let o = c.loop-u in
    let i = o.u-iterator.index + 1 in
    let n = c.next.new.self in
    let on = ap (λ k. k + 1) went.6 in
    let next : channel_entries group i (channels_left o.u-iterator) (channels_left o.d) ≡ unless same (entry 3 group i 0) ++ channel_entries group (n.index + 1) (channels_left n) (channels_left c.next-in-loop-u.new.self) = elim c.match-next-2.branch [
      | in-Some-next w ↦ both_next _ _ _ _ went.4 w.in-Some-next.ensures.steps.4 on (w.same-is ∙ w.same_channel-same.ensures)
      | in-None-next w ↦ next_alone _ _ _ _ went.4 w.in-None-next.ensures.steps.0 (ap channels_left w.in-None-next.ensures.steps.1) on w.same-is
    ] in
    let grown = l.grown_as c.unless.ensures (ap (λ k. unless same (entry 3 group (k + 1) 0)) (c.number.ensures.0 ∙ went.5)) in (
      still_abreast o.u-iterator n o.d c.next-in-loop-u.new.self c.in-Some.u c.next-in-loop-u.result went c.next-in-loop-u.ensures.steps o.invariant.0,
      l.turn o.invariant.1 (unless same (entry 3 group i 0)) next grown,
    )

pub returns : goal.returns
returns c =
    let o = c.loop-u in
    l.finish o.invariant.1 (l.grown_as c.list_alone.ensures (rest_alone _ _ _ _ _ c.in-None.ensures.steps.0 o.invariant.0))
