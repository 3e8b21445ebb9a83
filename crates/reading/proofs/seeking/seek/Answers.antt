use Rattle.std.proofs.lemmas.Result.{err_from_is_err_and}
use Rattle.position.specs.Parts.{image_reading}
use Rattle.position.proofs.Asking.{asking_refused}
use Rattle.reading.proofs.Asked.{none_given, some_given, group_missing, channel_missing, row_missing, row_asked}
use Rattle.reading.proofs.Going.{group_nth, channel_nth}
use Rattle.reading.proofs.Rows.{row_as, ended_channels, ended_records}
use lib.ListN.{length}
use mathlib.Core.Path.{refl, sym, ◌∙◌, ap}
use native.Mathlib.Nat.{zero-add}
use native.Mathlib.Omega.{arith}
use Prim.Native.Nat.{◌+◌}
use Rattle.reading.proofs.seeking.seek.Goals as goal

pub returns-in_err-file : goal.returns-in_err-file
returns-in_err-file c =
    let p = err_from_is_err_and c.from_residual.result c.from_residual.ensures.1 in
    rw (p.1, p.2) (asking_refused _ _ _ _ c.in_err-file.ensures.1)

pub returns-in_err-g : goal.returns-in_err-g
returns-in_err-g c =
    let p = err_from_is_err_and c.from_residual-in_err-g.result c.from_residual-in_err-g.ensures.1 in
    let n = none_given _ (sym c.in_err-g.was ∙ c.ok_or.ensures.value) in
    let m = rw n.0 at (group_nth _ _ _ _ c.nth.ensures.ran) in
    let i = c.groups.ensures.0 ∙ c.in_ok-file.ensures.1.0 in
    let h = ap (λ x. length (image_reading x).groups) i in
    rw (p.1, p.2, n.1, c.at-none.ensures) (group_missing _ _ _ _ c.in_ok-file.file c.in_ok-file.ensures.1.0 (omega (arith, m, h, c.groups.ensures.2)))

pub returns-in_err-x : goal.returns-in_err-x
returns-in_err-x c =
    let p = err_from_is_err_and c.from_residual-in_err-x.result c.from_residual-in_err-x.ensures.1 in
    let n = none_given _ (sym c.in_err-x.was ∙ c.ok_or-2.ensures.value) in
    let g = rw (some_given _ _ (sym c.in_ok-g.was ∙ c.ok_or.ensures.value)) at (group_nth _ _ _ _ c.nth.ensures.ran) in
    let i = g.0 ∙ c.groups.ensures.0 ∙ c.in_ok-file.ensures.1.0 in
    let k = g.1 ∙ ap (λ k. k + c.args.group) c.groups.ensures.2 ∙ zero-add _ in
    let m = rw n.0 at (channel_nth _ _ _ _ c.nth-2.ensures.ran) in
    let h = ended_channels (c.channels.ensures.0 ∙ i) c.channels.ensures.1 in
    rw (p.1, p.2, n.1, c.at-none.ensures) (channel_missing _ _ _ _ c.in_ok-g.g i k (omega (arith, m, h, c.channels.ensures.3)))

pub returns-in_err-span : goal.returns-in_err-span
returns-in_err-span c =
    let p = err_from_is_err_and c.from_residual-in_err-span.result c.from_residual-in_err-span.ensures.1 in
    let n = none_given _ (sym c.in_err-span.was ∙ c.ok_or-3.ensures.value) in
    let g = rw (some_given _ _ (sym c.in_ok-g.was ∙ c.ok_or.ensures.value)) at (group_nth _ _ _ _ c.nth.ensures.ran) in
    let i = g.0 ∙ c.groups.ensures.0 ∙ c.in_ok-file.ensures.1.0 in
    let k = g.1 ∙ ap (λ k. k + c.args.group) c.groups.ensures.2 ∙ zero-add _ in
    let x = rw (some_given _ _ (sym c.in_ok-x.was ∙ c.ok_or-2.ensures.value)) at (channel_nth _ _ _ _ c.nth-2.ensures.ran) in
    let j = x.1 ∙ c.channels.ensures.1 in
    let l = x.2 ∙ ap (λ k. k + c.args.channel) c.channels.ensures.3 ∙ zero-add _ in
    let m = rw n.0 at c.row.ensures in
    let h = ended_records i (sym j) in
    rw (p.1, p.2, n.1, c.at-none.ensures) (row_missing _ _ _ _ c.in_ok-x.x (x.0 ∙ c.channels.ensures.0 ∙ i) (j ∙ k) l (omega (arith, m, h)))

pub returns : goal.returns
returns c =
    let g = rw (some_given _ _ (sym c.in_ok-g.was ∙ c.ok_or.ensures.value)) at (group_nth _ _ _ _ c.nth.ensures.ran) in
    let i = g.0 ∙ c.groups.ensures.0 ∙ c.in_ok-file.ensures.1.0 in
    let k = g.1 ∙ ap (λ k. k + c.args.group) c.groups.ensures.2 ∙ zero-add _ in
    let x = rw (some_given _ _ (sym c.in_ok-x.was ∙ c.ok_or-2.ensures.value)) at (channel_nth _ _ _ _ c.nth-2.ensures.ran) in
    let j = x.1 ∙ c.channels.ensures.1 in
    let l = x.2 ∙ ap (λ k. k + c.args.channel) c.channels.ensures.3 ∙ zero-add _ in
    let r = rw (some_given _ _ (sym c.in_ok-span.was ∙ c.ok_or-3.ensures.value)) at c.row.ensures in
    row_asked _ _ _ _ c.in_ok-x.x (x.0 ∙ c.channels.ensures.0 ∙ i) (j ∙ k) l _ _ (row_as _ _ r i (sym j) refl)
