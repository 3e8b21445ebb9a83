use Rattle.std.proofs.Common.{take}
use Rattle.spec.specs.Block.{finalized, unfinalized}
use Rattle.image.proofs.Ident.{begins_with, ident_short, ident_named, ident_unfinished, ident_other}
use mathlib.Core.Path.{sym, ◌∙◌}
use Rattle.image.proofs.Id.open.Goals as goal

pub returns-then-image-lt-LEAST : goal.returns-then-image-lt-LEAST
returns-then-image-lt-LEAST c = ident_short c.args.image.now c.if-image-lt-LEAST.true

pub returns-then-starts_with : goal.returns-then-starts_with
returns-then-starts_with c =
    let first = sym (begins_with (take 8 c.args.image.now) finalized) ∙ sym c.starts_with.ensures.value in
    ident_named c.args.image.now c.if-image-lt-LEAST.false (first ∙ c.if-starts_with.true)

pub returns-then-starts_with-2 : goal.returns-then-starts_with-2
returns-then-starts_with-2 c =
    let first = sym (begins_with (take 8 c.args.image.now) finalized) ∙ sym c.starts_with.ensures.value in
    let second = sym (begins_with (take 8 c.args.image.now) unfinalized) ∙ sym c.starts_with-2.ensures.value in
    ident_unfinished c.args.image.now c.if-image-lt-LEAST.false (first ∙ c.if-starts_with.false) (second ∙ c.if-starts_with-2.true)

pub returns : goal.returns
returns c =
    let first = sym (begins_with (take 8 c.args.image.now) finalized) ∙ sym c.starts_with.ensures.value in
    let second = sym (begins_with (take 8 c.args.image.now) unfinalized) ∙ sym c.starts_with-2.ensures.value in
    ident_other c.args.image.now c.if-image-lt-LEAST.false (first ∙ c.if-starts_with.false) (second ∙ c.if-starts_with-2.false)
