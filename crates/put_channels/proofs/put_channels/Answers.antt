use Rattle.answers.specs.Readings.{target}
use Rattle.answers.specs.Copies.{link_to_first, channel_length, channels_length, channels_bytes}
use Rattle.write.specs.Progress as g
use Rattle.reading.specs.Steps.{the_channel}
use Rattle.put_channels.specs.Channels.{channel_as}
use Rattle.put_channels.proofs.Channels.{layout_end, channels_cons, channels_nil, channel_length_lem}
use Rattle.put_channels.proofs.Peeked.{ahead_left, ahead_start, ahead_next, ahead_peek}
use Rattle.std.specs.Prelude.{Some, None, ◌∷◌}
use Prim.Native.Nat.{◌+◌}
use mathlib.Core.Path.{◌≡◌, refl, sym, ◌∙◌, ap, ap₂}
use native.Mathlib.Omega.{arith}
use Rattle.put_channels.proofs.put_channels.Goals as goal

pub loop-x-init : goal.loop-x-init
loop-x-init c = rw (ahead_start _ _ c.peekable-c.ensures.source c.peekable-c.ensures.peeked) (g.start, refl)

pub returns : goal.returns
returns c =
    let l = c.loop-x in
    (g.finish l.invariant.0 (ap (channels_bytes l.to) (ahead_next l.c c.next.new.self None c.in_default.ensures.steps) ∙ channels_nil l.to)).0

pub loop-x-preserved : goal.loop-x-preserved
loop-x-preserved c =
    let l = c.loop-x in
    let this = the_channel c.in-Some.x in
    let layout = c.of-layout.result in
    let e = c.of-layout.ensures in
    let end = layout.places.end in
    let end_is : end ≡ l.to + channel_length this = layout_end layout ∙ ap₂ (λ k x. k + channel_length x) e.0 e.1 in
    let v = c.peek.follows.lender-at-none in
    let held = c.peek.follows.holds-at-none in
    let peeked = ahead_peek end c.next.new.self v c.peek.result c.in-Some.ensures.steps.0 held.0 held.2 in
    let left = ahead_left v in
    let left_is = ahead_next l.c c.next.new.self (Some c.in-Some.x) c.in-Some.ensures.steps ∙ ap (λ xs. this ∷ xs) peeked.0 in
    let s = rw (c.link_if-next.ensures, c.is_some.ensures, peeked.1, e.0, e.1) at c.put.ensures in (
      g.step (channel_as l.to (target (link_to_first end left)) this) end l.invariant.0 (ap (channels_bytes l.to) left_is ∙ channels_cons l.to end this left end_is) s (end_is ∙ sym (ap (λ k. l.to + k) (channel_length_lem c.in-Some.x l.to (link_to_first end left)))),
      omega (arith, l.invariant.1, ap channels_length left_is, end_is),
    )
