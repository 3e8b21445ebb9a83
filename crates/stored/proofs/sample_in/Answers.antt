use Rattle.stored.proofs.Rows.{bits_of, no_bits, some_bits}
use mathlib.Core.Path.{sym, ◌∙◌}
use Rattle.stored.proofs.sample_in.Goals as goal

pub returns-then-signal-eq0 : goal.returns-then-signal-eq0
returns-then-signal-eq0 c =
    (λ x h. rw (c.at.ensures, c.type_field-field.ensures) (no_bits _ _ x (sym c.signal-signal.ensures.bits ∙ c.if-signal-eq0.true)), tt)

pub returns : goal.returns
returns c =
    let signal = c.signal-signal.ensures in
    let some = c.if-signal-eq0.false in
    let sample = c.stored_as.ensures in
    (λ x h. some_bits _ _ x (λ e. some (signal.bits ∙ e)) (rw c.type_field-field.ensures at (sample.is _ x (bits_of _ _ _ _ c.requires _ signal some x h))), sample.fits)
