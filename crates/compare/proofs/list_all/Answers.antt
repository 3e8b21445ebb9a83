use Rattle.listing.proofs.Laws.{grown_as}
use Rattle.reading.specs.Steps.{reading_of}
use Rattle.compare.proofs.Outcomes.{groups_from_lem, all_listed}
use Rattle.std.proofs.Common.{rules}
use mathlib.Core.Path.{sym, ◌∙◌}
use Rattle.compare.proofs.list_all.Goals as goal

pub returns : goal.returns
returns c =
    let start = c.new-list.ensures in
    let file = c.list_file.ensures in
    let groups = grown_as c.list_groups.ensures (groups_from_lem c.groups.ensures.2 c.groups.ensures.1 c.groups-2.ensures.1) in
    let lent = sym (groups.lent ∙ file.lent ∙ start.lent.0) in
    all_listed (reading_of c.args.f) (reading_of c.args.g) start.lent.1 start.empty file groups (search (rules, lent))
