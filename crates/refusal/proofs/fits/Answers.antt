use mathlib.Core.Path.{sym}
use Rattle.refusal.proofs.Fitting.{too_long, no_room, fit}
use Rattle.refusal.proofs.fits.Goals as goal

pub returns-then-length-gt-LONGEST : goal.returns-then-length-gt-LONGEST
returns-then-length-gt-LONGEST c = rw c.at.ensures (sym (too_long _ _ c.if-length-gt-LONGEST.true))

pub returns-then-room-length : goal.returns-then-room-length
returns-then-room-length c = rw c.at-then-room-length.ensures (sym (no_room _ _ c.if-length-gt-LONGEST.false c.if-room-length.true))

pub returns : goal.returns
returns c = sym (fit _ _ c.if-length-gt-LONGEST.false c.if-room-length.false)
