use Rattle.listing.specs.Growing.{Listing}
use Rattle.reading.specs.Steps.{records_left}
use Rattle.list_records.specs.Common.{common_entries}
use Rattle.list_records.proofs.list_common.Given as goal

abbrev pub invariant-loop-item : goal.invariant-loop-item
invariant-loop-item l =
    let i = l.item-iterator in
    Listing (common_entries l.group 0 (records_left l.x) (records_left l.y)) l.initial.list l.list (common_entries l.group i.count (records_left i.iter.a) (records_left i.iter.b))
