use Rattle.image.proofs.ChannelFields.{type_is, data_is}
use Rattle.walk.proofs.Channels.{wrong_type, wrong_bits, wrong_data, fields_good}
use native.Mathlib.Omega.{arith}
use mathlib.Core.Path.{sym, ◌∙◌}
use Rattle.walk.proofs.fields_pass.Goals as goal

pub returns-then-u16-gt1 : goal.returns-then-u16-gt1
returns-then-u16-gt1 c =
    let t = c.u16.ensures.0 ∙ type_is _ _ c.args.cn.holds in
    rw c.at.ensures (wrong_type _ _ _ (omega (arith, c.if-u16-gt1.true, t)))

pub returns-then-not-bits_fit : goal.returns-then-not-bits_fit
returns-then-not-bits_fit c =
    let t = c.u16.ensures.0 ∙ type_is _ _ c.args.cn.holds in
    rw c.at-then-not-bits_fit.ensures (wrong_bits _ _ _ (omega (arith, c.if-u16-gt1.false, t)) (sym c.bits_fit.ensures ∙ c.if-not-bits_fit.true))

pub returns-then-u16-gt16 : goal.returns-then-u16-gt16
returns-then-u16-gt16 c =
    let t = c.u16.ensures.0 ∙ type_is _ _ c.args.cn.holds in
    let d = c.u16-2.ensures.0 ∙ data_is _ _ c.args.cn.holds in
    rw c.at-then-u16-gt16.ensures (wrong_data _ _ _ (omega (arith, c.if-u16-gt1.false, t)) (sym c.bits_fit.ensures ∙ c.if-not-bits_fit.false) (omega (arith, c.if-u16-gt16.true, d)))

pub returns : goal.returns
returns c =
    let t = c.u16.ensures.0 ∙ type_is _ _ c.args.cn.holds in
    let d = c.u16-2.ensures.0 ∙ data_is _ _ c.args.cn.holds in
    fields_good _ _ _ (omega (arith, c.if-u16-gt1.false, t)) (sym c.bits_fit.ensures ∙ c.if-not-bits_fit.false) (omega (arith, c.if-u16-gt16.false, d))
