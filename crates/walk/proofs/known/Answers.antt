use Rattle.std.proofs.Common.{rules, tests}
use Rattle.std.proofs.lemmas.Iterator.{YieldsList-from_slice}
use Rattle.std.proofs.lemmas.Iterator.Search.{any_from_yields_List}
use lib.Dec.{eqb}
use mathlib.Core.Path.{◌∙◌}
use Rattle.records.specs.declared.Slot.{Slot}
use Rattle.walk.proofs.Tables.{elem_any}
use Rattle.walk.proofs.known.Goals as goal

pub returns : goal.returns
returns c =
    let id = c.u16-id.result in
    let slots = c.args.slots.now in
    rw (← c.u16-id.ensures.0)
    (any_from_yields_List (λ (s : Slot). eqb id s.id) _ _ _ c.any.ensures.ran (YieldsList-from_slice slots cc) (λ x b q k. search (rules, tests))
    ∙ elem_any id slots)
