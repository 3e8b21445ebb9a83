use Rattle.file.proofs.Files.{within, ident_refused, ident_order, ident_floats, ident_version, ident_good}
use Rattle.image.proofs.Ident.{ident_shut, ident_stands}
use Rattle.spec.specs.Bytes.{u16}
use native.Mathlib.Omega.{arith}
use mathlib.Core.Path.{sym, ◌∙◌, ap}
use Rattle.file.proofs.ident.Goals as goal

pub returns-in_default : goal.returns-in_default
returns-in_default c =
    let is = c.refused.ensures _ c.in_default.is in
    let no = ident_shut c.args.image.now c.requires (sym c.in_default.is ∙ c.open-opened.ensures) in
    rw is (ident_refused c.args.image.now no.0 no.1)

pub u16_in-requires : goal.u16_in-requires
u16_in-requires c =
    let s = ident_stands c.args.image.now c.requires _ (sym c.in-Open.is ∙ c.open-opened.ensures) in
    (omega arith, s.inside)

pub returns-then-u16_in-ne0 : goal.returns-then-u16_in-ne0
returns-then-u16_in-ne0 c =
    let s = ident_stands c.args.image.now c.requires _ (sym c.in-Open.is ∙ c.open-opened.ensures) in
    rw c.at.ensures
    (ident_order c.args.image.now s.named (λ e. c.if-u16_in-ne0.true ((c.u16_in.ensures.0 ∙ ap (u16 24) s.bytes) ∙ e)))

pub u16_in-requires-2 : goal.u16_in-requires-2
u16_in-requires-2 c =
    let s = ident_stands c.args.image.now c.requires _ (sym c.in-Open.is ∙ c.open-opened.ensures) in
    (omega arith, s.inside)

pub returns-then-u16_in-ne0-2 : goal.returns-then-u16_in-ne0-2
returns-then-u16_in-ne0-2 c =
    let s = ident_stands c.args.image.now c.requires _ (sym c.in-Open.is ∙ c.open-opened.ensures) in
    rw c.at-then-u16_in-ne0-2.ensures
    (ident_floats c.args.image.now s.named (sym (c.u16_in.ensures.0 ∙ ap (u16 24) s.bytes) ∙ c.if-u16_in-ne0.false) (λ e. c.if-u16_in-ne0-2.true ((c.u16_in-2.ensures.0 ∙ ap (u16 26) s.bytes) ∙ e)))

pub u16_in-version-requires : goal.u16_in-version-requires
u16_in-version-requires c =
    let s = ident_stands c.args.image.now c.requires _ (sym c.in-Open.is ∙ c.open-opened.ensures) in
    (omega arith, s.inside)

pub returns-then-not-contains : goal.returns-then-not-contains
returns-then-not-contains c =
    let s = ident_stands c.args.image.now c.requires _ (sym c.in-Open.is ∙ c.open-opened.ensures) in
    let within_range = within 300 399 c.u16_in-version.result (rw (c.new.ensures.start, c.new.ensures.end, c.new.ensures.exhausted) at c.contains.ensures.value) in
    rw c.at-then-not-contains.ensures
    (ident_version c.args.image.now s.named (sym (c.u16_in.ensures.0 ∙ ap (u16 24) s.bytes) ∙ c.if-u16_in-ne0.false) (sym (c.u16_in-2.ensures.0 ∙ ap (u16 26) s.bytes) ∙ c.if-u16_in-ne0-2.false) (rw (c.u16_in-version.ensures.0 ∙ ap (u16 28) s.bytes) at (sym within_range ∙ c.if-not-contains.true)))

pub returns : goal.returns
returns c =
    let s = ident_stands c.args.image.now c.requires _ (sym c.in-Open.is ∙ c.open-opened.ensures) in
    let within_range = within 300 399 c.u16_in-version.result (rw (c.new.ensures.start, c.new.ensures.end, c.new.ensures.exhausted) at c.contains.ensures.value) in
    ident_good c.args.image.now s.named (sym (c.u16_in.ensures.0 ∙ ap (u16 24) s.bytes) ∙ c.if-u16_in-ne0.false) (sym (c.u16_in-2.ensures.0 ∙ ap (u16 26) s.bytes) ∙ c.if-u16_in-ne0-2.false) (rw (c.u16_in-version.ensures.0 ∙ ap (u16 28) s.bytes) at (sym within_range ∙ c.if-not-contains.false))
