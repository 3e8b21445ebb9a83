use Rattle.std.proofs.lemmas.Result.{err_from_is_err_and}
use Rattle.file.proofs.Files.{header_shut, header_is}
use Rattle.walk.proofs.Channels.{then_left, then_right}
use Rattle.spec.specs.Block.{hd_kind}
use Rattle.image.proofs.Blocks.{seen_shut, opened_stands, if_open}
use mathlib.Core.Path.{◌∙◌}
use Rattle.file.proofs.header.Goals as goal

pub returns-in_default : goal.returns-in_default
returns-in_default c =
    let is = c.refused.ensures _ c.in_default.is in
    rw is (header_shut _ _ (seen_shut _ c.open-opened.ensures.0 c.in_default.is))

pub returns-in_err-body : goal.returns-in_err-body
returns-in_err-body c =
    let s = opened_stands hd_kind _ _ _ c.open-opened.ensures.0 c.in-Open.is in
    let i = if_open _ c.open-opened.ensures.1 c.in-Open.is in
    let p = err_from_is_err_and c.from_residual.result c.from_residual.ensures.1 in
    rw (p.1, p.2) (then_left (rw (c.link.ensures, i) at c.body.ensures) _ c.in_err-body.was ∙ header_is _ _ _ s)

pub returns-in_err-body-2 : goal.returns-in_err-body-2
returns-in_err-body-2 c =
    let s = opened_stands hd_kind _ _ _ c.open-opened.ensures.0 c.in-Open.is in
    let i = if_open _ c.open-opened.ensures.1 c.in-Open.is in
    let p = err_from_is_err_and c.from_residual-in_err-body-2.result c.from_residual-in_err-body-2.ensures.1 in
    rw (p.1, p.2) (then_right (rw (c.link.ensures, i) at c.body.ensures) c.in_ok-body.was
    (then_left (rw (c.link-2.ensures, i) at c.body-2.ensures) _ c.in_err-body-2.was)
    ∙ header_is _ _ _ s)

pub returns : goal.returns
returns c =
    let s = opened_stands hd_kind _ _ _ c.open-opened.ensures.0 c.in-Open.is in
    let i = if_open _ c.open-opened.ensures.1 c.in-Open.is in
    let at = c.new.ensures in
    then_right (rw (c.link.ensures, i) at c.body.ensures) c.in_ok-body.was
    (then_right (rw (c.link-2.ensures, i) at c.body-2.ensures) c.in_ok-body-2.was
    (rw (at.0, at.1, at.2, at.3, at.4, c.link-3.ensures, i) at c.data_groups.ensures))
    ∙ header_is _ _ _ s
