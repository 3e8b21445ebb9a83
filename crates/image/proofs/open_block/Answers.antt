use Rattle.image.proofs.Opening.{no_head, other, too_small, too_long, opens}
use native.Mathlib.Omega.{arith}
use Rattle.image.proofs.open_block.Goals as goal

pub returns-then-image-lt4 : goal.returns-then-image-lt4
returns-then-image-lt4 c = no_head c.args.id _ _ _ (omega arith)

pub returns-then-not-starts_with : goal.returns-then-not-starts_with
returns-then-not-starts_with c = other c.args.id _ _ _ (omega arith) (omega (arith, c.well_formed)) _ c.starts_with.ensures.value c.if-not-starts_with.true

pub returns-then-size-least : goal.returns-then-size-least
returns-then-size-least c =
    too_small c.args.id _ _ _ (omega arith) (omega (arith, c.well_formed)) _ c.starts_with.ensures.value c.if-not-starts_with.false _ c.held-size.ensures.0 (omega arith)

pub returns-then-image-at-2 : goal.returns-then-image-at-2
returns-then-image-at-2 c =
    too_long c.args.id _ _ _ (omega arith) (omega (arith, c.well_formed)) _ c.starts_with.ensures.value c.if-not-starts_with.false _ c.held-size.ensures.0 (omega arith) (omega arith)

pub returns : goal.returns
returns c =
    opens c.args.id _ _ _ (omega arith) (omega (arith, c.well_formed)) _ c.starts_with.ensures.value c.if-not-starts_with.false _ c.held-size.ensures.0 (omega arith) (omega arith)
