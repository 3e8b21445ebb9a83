use Rattle.listing.proofs.Laws.{grown_as, grown_none}
use Rattle.list_groups.proofs.Laws.{group_listed, same_records}
use Rattle.list_groups.proofs.list_group.Goals as goal

pub returns-then-not-known : goal.returns-then-not-known
returns-then-not-known c =
    group_listed _ _ _ c.same_own-same.ensures c.unless.ensures c.channels.ensures.3 c.channels.ensures.2 c.channels-2.ensures.2 c.list_channels.ensures c.list_records.ensures

pub returns-else-not-known : goal.returns-else-not-known
returns-else-not-known c =
    let none = grown_as (grown_none c.list_channels.new.list) (same_records c.args.number 0 (c.requires c.if-not-known.false)) in
    group_listed _ _ _ c.same_own-same.ensures c.unless.ensures c.channels.ensures.3 c.channels.ensures.2 c.channels-2.ensures.2 c.list_channels.ensures none
