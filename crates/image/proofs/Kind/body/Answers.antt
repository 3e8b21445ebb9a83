use Rattle.image.proofs.Blocks.{seen_shut, seen_open, body_none, body_shut, body_go}
use Rattle.image.proofs.Kind.body.Goals as goal

pub returns-then-link-eq0 : goal.returns-then-link-eq0
returns-then-link-eq0 g c = body_none _ _ _ _ c.if-link-eq0.true

pub returns-in_default : goal.returns-in_default
returns-in_default g c =
    let is = c.refused.ensures _ c.in_default.is in
    rw is (body_shut _ _ _ _ c.if-link-eq0.false (seen_shut _ c.open-opened.ensures.0 c.in_default.is))

pub returns : goal.returns
returns g c = body_go _ _ _ _ c.if-link-eq0.false _ (seen_open _ c.open-opened.ensures.0 c.in-Open.is)
