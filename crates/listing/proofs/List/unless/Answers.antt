use Rattle.listing.proofs.Laws.{grown_none, grown_as}
use Rattle.answers.specs.Differences.{entry, unless}
use mathlib.Core.Path.{sym, ap}
use Rattle.listing.proofs.List.unless.Goals as goal

pub returns-else-not-same : goal.returns-else-not-same
returns-else-not-same c =
    let a = c.args in
    grown_as (grown_none a.self.now) (ap (λ t. unless t (entry a.kind a.group a.item 0)) (sym c.if-not-same.false))
