use Rattle.std.proofs.lemmas.Result.{err_from_is_err_and}
use Rattle.file.proofs.DataGroups.{groups_refused, log_refused, log_passed}
use native.Mathlib.Omega.{arith}
use lib.ListN.{length, length-map, take}
use lib.Seq.{length-take-le}
use Rattle.records.specs.Slots.{slot_seen}
use mathlib.Core.Path.{◌≡◌}
use Prim.Native.Nat.{◌-◌}
use Rattle.file.proofs.groups_then_log.Goals as goal

pub returns-in_err-d : goal.returns-in_err-d
returns-in_err-d c =
    let down = c.down-first.ensures in
    let met = rw (c.in_err-d.was, down.0, down.1, down.3, down.4, c.link.ensures) at c.group_list.ensures.0 in
    let p = err_from_is_err_and c.from_residual.result c.from_residual.ensures.1 in
    rw (p.1, p.2) (groups_refused _ _ _ _ _ met, tt)

pub returns-in_err-log : goal.returns-in_err-log
returns-in_err-log c =
    let down = c.down-first.ensures in
    let met = rw (c.in_ok-d.was, down.0, down.1, down.3, down.4, c.link.ensures) at c.group_list.ensures.0 in
    let p = err_from_is_err_and c.from_residual-in_err-log.result c.from_residual-in_err-log.ensures.1 in
    rw (p.1, p.2) (log_refused _ _ _ _ _ _ met (rw c.link-2.ensures at c.log.ensures) c.in_err-log.was, tt)

pub returns : goal.returns
returns c =
    let down = c.down-first.ensures in
    let past = c.past_dg.ensures in
    let only = rw c.in_ok-d.was at c.group_list.ensures.1 in
    let n = c.in_ok-d.d.cgs - c.args.c.cgs in
    let slots = c.group_list.new.slots in
    let many : length (take n slots) ≡ n = length-take-le n slots (omega (arith, only.2, c.group_list.array_long)) in
    let met = rw (c.in_ok-d.was, down.0, down.1, down.3, down.4, c.link.ensures) at c.group_list.ensures.0 in
    let whole = rw c.link-2.ensures at c.log.ensures in (
      log_passed _ _ _ _ _ _ met whole c.in_ok-log.was _ _ (omega (arith, past.3, length-map (take n slots) slot_seen, many, only.1, down.3)) past.4,
      (rw c.link-3.ensures at past.0, rw c.link-3.ensures at past.1, omega (arith, past.2, only.0, down.2), omega (arith, past.3, only.2), omega (arith, past.4, only.3)),
    )
