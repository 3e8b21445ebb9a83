use Rattle.image.proofs.Fields.{field_held, field_cut}
use Rattle.image.proofs.Numbers.{width_pos}
use native.Mathlib.Omega.{arith}
use mathlib.Core.Path.{◌∙◌}
use Rattle.image.proofs.number_in.Goals as goal

pub returns-then-b-offset : goal.returns-then-b-offset
returns-then-b-offset c = (field_cut _ _ c.requires.2 _ _ (omega arith), width_pos _)

pub returns : goal.returns
returns c = (c.held.ensures.0 ∙ field_held _ _ c.requires.2 _ _ (omega arith), c.held.ensures.1)
