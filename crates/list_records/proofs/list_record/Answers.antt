use Rattle.listing.proofs.Laws.{grown_none, grown_as}
use Rattle.answers.specs.Differences.{entry, unless, difference}
use mathlib.Core.Path.{sym, ap, ◌∙◌}
use Rattle.list_records.proofs.list_record.Goals as goal

pub returns-else-not-same_part : goal.returns-else-not-same_part
returns-else-not-same_part c =
    let a = c.args in
    grown_as (grown_none a.list.now) (ap (λ t. unless t (entry 4 a.group a.item (difference a.x.now a.y.now))) (sym c.if-not-same_part.false ∙ c.same_part.ensures))
