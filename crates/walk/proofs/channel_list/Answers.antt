use Rattle.std.proofs.lemmas.Result.{err_from_is_err_and}
use Rattle.walk.proofs.ChannelList.{channels_end, channels_full, channels_shut, channels_stop, channels_go}
use Rattle.spec.specs.Block.{cn_kind}
use Rattle.image.proofs.Blocks.{seen_shut, opened_stands, if_open}
use native.Mathlib.Omega.{arith}
use mathlib.Core.Path.{sym, ◌∙◌}
use Prim.Native.Nat.{◌<◌}
use Rattle.walk.proofs.channel_list.Goals as goal

pub returns-then-c-eq-MOST_CHANNELS : goal.returns-then-c-eq-MOST_CHANNELS
returns-then-c-eq-MOST_CHANNELS c =
    let l = c.loop-c in
    rw c.at.ensures (sym (l.invariant.4 ∙ channels_full _ _ _ _ _ c.loop-c-test.true c.if-c-eq-MOST_CHANNELS.true), tt)

pub returns-in_default : goal.returns-in_default
returns-in_default c =
    let l = c.loop-c in
    let below : l.c.cns < 16384 = omega (arith, l.invariant.3, c.if-c-eq-MOST_CHANNELS.false) in
    let is = c.refused.ensures _ c.in_default.is in
    rw is (sym (l.invariant.4 ∙ channels_shut _ _ _ _ _ c.loop-c-test.true below (seen_shut _ c.open-opened.ensures.0 c.in_default.is)), tt)

pub returns-in_err-channel : goal.returns-in_err-channel
returns-in_err-channel c =
    let l = c.loop-c in
    let s = opened_stands cn_kind _ _ _ c.open-opened.ensures.0 c.in-Open.is in
    let i = if_open _ c.open-opened.ensures.1 c.in-Open.is in
    let below : l.c.cns < 16384 = omega (arith, l.invariant.3, c.if-c-eq-MOST_CHANNELS.false) in
    let p = err_from_is_err_and c.from_residual.result c.from_residual.ensures.1 in
    rw (p.1, p.2) (sym (l.invariant.4 ∙ channels_stop _ _ _ _ _ c.loop-c-test.true below _ s (rw i at c.channel.ensures) c.in_err-channel.was), tt)

pub loop-c-preserved : goal.loop-c-preserved
loop-c-preserved c =
    let l = c.loop-c in
    let m = c.past_cn-c.ensures in
    let s = opened_stands cn_kind _ _ _ c.open-opened.ensures.0 c.in-Open.is in
    let i = if_open _ c.open-opened.ensures.1 c.in-Open.is in
    let below : l.c.cns < 16384 = omega (arith, l.invariant.3, c.if-c-eq-MOST_CHANNELS.false) in
    let g = channels_go _ c.args.size l.c.link.field _ _ c.loop-c-test.true below _ s (rw i at c.channel.ensures) c.in_ok-channel.was in (
      m.2 ∙ l.invariant.0,
      m.3 ∙ l.invariant.1,
      omega (arith, m.4, l.invariant.2),
      omega (arith, m.4, below),
      rw (m.0, m.1, m.4, c.link.ensures, i) (l.invariant.4 ∙ g),
    )

pub returns : goal.returns
returns c =
    let l = c.loop-c in
    (sym (l.invariant.4 ∙ channels_end _ _ _ _ _ c.loop-c-test.false), (l.invariant.0, l.invariant.1, l.invariant.2, l.invariant.3))
