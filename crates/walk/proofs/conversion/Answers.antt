use Rattle.walk.proofs.Channels.{conversion_none, conversion_shut, formula_links, formula_plain}
use Rattle.spec.specs.Block.{cc_kind}
use Rattle.image.proofs.Blocks.{seen_shut, opened_stands, if_open}
use mathlib.Core.Path.{sym, ◌∙◌}
use Rattle.walk.proofs.conversion.Goals as goal

pub returns-then-link-eq0 : goal.returns-then-link-eq0
returns-then-link-eq0 c = conversion_none _ _ _ (rw c.link-link.ensures at c.if-link-eq0.true)

pub returns-in_default : goal.returns-in_default
returns-in_default c =
    let link = c.link-link.ensures in
    let is = c.refused.ensures _ c.in_default.is in
    rw (is, link) (conversion_shut _ _ _ (rw link at c.if-link-eq0.false) (seen_shut _ (rw link at c.open-opened.ensures.0) c.in_default.is))

pub returns-then-u16-eq12 : goal.returns-then-u16-eq12
returns-then-u16-eq12 c =
    let link = c.link-link.ensures in
    let s = opened_stands cc_kind _ _ _ (rw link at c.open-opened.ensures.0) c.in-Open.is in
    let i = if_open _ c.open-opened.ensures.1 c.in-Open.is in
    let f = rw i at c.u16.ensures.0 in
    rw c.at.ensures (formula_links _ _ _ (rw link at c.if-link-eq0.false) _ s (sym f ∙ c.if-u16-eq12.true))

pub returns : goal.returns
returns c =
    let link = c.link-link.ensures in
    let s = opened_stands cc_kind _ _ _ (rw link at c.open-opened.ensures.0) c.in-Open.is in
    let i = if_open _ c.open-opened.ensures.1 c.in-Open.is in
    let f = rw i at c.u16.ensures.0 in
    formula_plain _ _ _ (rw link at c.if-link-eq0.false) _ s (λ e. c.if-u16-eq12.false (f ∙ e))
