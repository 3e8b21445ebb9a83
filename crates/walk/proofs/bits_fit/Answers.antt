use Rattle.image.specs.Opened.{bytes_of}
use Rattle.spec.specs.Block.{read_fields}
use Rattle.image.proofs.ChannelFields.{start_is, bits_is}
use Rattle.walk.proofs.Channels.{bits_none, bits_some}
use mathlib.Core.Path.{sym, ◌∙◌}
use Rattle.walk.proofs.bits_fit.Goals as goal

pub returns-then-bits-eq0 : goal.returns-then-bits-eq0
returns-then-bits-eq0 c =
    let a = c.args in
    let f = read_fields (bytes_of a.cn) in
    bits_none a.size f (sym (bits_is _ _ c.args.cn.holds) ∙ sym c.u16-bits.ensures.0 ∙ c.if-bits-eq0.true)

pub returns : goal.returns
returns c =
    let a = c.args in
    let f = read_fields (bytes_of a.cn) in
    let h = c.args.cn.holds in
    let b = c.u16-bits.ensures.0 ∙ bits_is _ _ h in
    rw (c.div_ceil.ensures, c.u16-start.ensures.0 ∙ start_is _ _ h, b, c.u16-added.ensures.0) (bits_some a.size f (λ e. c.if-bits-eq0.false (b ∙ e)))
