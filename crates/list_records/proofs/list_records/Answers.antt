use Rattle.listing.proofs.Laws.{grown_as, grown_then}
use Rattle.reading.specs.Steps.{the_group}
use Rattle.list_records.specs.Common.{common_entries}
use Rattle.list_records.proofs.Common.{all_entries}
use mathlib.Core.Path.{ap₂}
use native.Mathlib.Omega.{arith}
use Rattle.list_records.proofs.list_records.Goals as goal

pub returns : goal.returns
returns c =
    let left = (the_group c.args.g).records in
    let right = (the_group c.args.h).records in
    let common = grown_as c.list_common.ensures (ap₂ (common_entries c.args.group 0) c.series-x.ensures.0 c.series-y.ensures.0) in
    let n = c.count-n.ensures.0 in
    let m = c.count-m.ensures.0 in
    grown_as (grown_then common c.numbered.ensures) (all_entries c.args.group 0 c.min.result c.abs_diff.result left right (omega (arith, c.min.ensures, n, m)) (omega (arith, c.abs_diff.ensures, n, m)))
