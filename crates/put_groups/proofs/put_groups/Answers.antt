use Rattle.answers.specs.Copies.{group_length, groups_length}
use Rattle.put_channels.proofs.Written.{link_by}
use Rattle.put_groups.proofs.Groups.{copying_starts, copying_ends, records_here, copying_turn}
use mathlib.Core.Path.{refl, ◌∙◌, ap}
use native.Mathlib.Omega.{arith}
use Rattle.put_groups.proofs.put_groups.Goals as goal

pub loop-g-init : goal.loop-g-init
loop-g-init c = (refl, refl, c.requires.1, copying_starts c.args.groups c.requires.0)

pub returns : goal.returns
returns c = copying_ends c.args.groups c.loop-g.c _ c.loop-g.invariant.3 c.in_default.ensures.steps

pub put_records-requires : goal.put_records-requires
put_records-requires c =
    let inv = c.loop-g.invariant in
    let went = c.in-Some.ensures.steps in
    let here = records_here inv.3 inv.2 _ _ went c.of-layout.result c.of-layout.ensures _ c.length.ensures.0 _ _ c.next-in-Some.ensures.steps (link_by _ c.link_if-next.ensures c.is_some.ensures) c.put_blocks.ensures c.records-records.ensures.0 in
    (omega (arith, here.0, c.length.ensures.0.exact, ap group_length c.of-layout.ensures.1, c.put_blocks.auto.out, inv.0, inv.1, inv.2, ap groups_length went.3, c.requires.2), here.1)

pub loop-g-preserved : goal.loop-g-preserved
loop-g-preserved c =
    let inv = c.loop-g.invariant in
    let went = c.in-Some.ensures.steps in
    let sum = ap groups_length went.3 in
    let turn = copying_turn inv.3 inv.2 _ _ went c.of-layout.result c.of-layout.ensures _ c.length.ensures.0 _ _ c.next-in-Some.ensures.steps (link_by _ c.link_if-next.ensures c.is_some.ensures) c.put_blocks.ensures c.records-records.ensures.0 c.put_records.ensures in
    (c.put_records.auto.out ∙ c.put_blocks.auto.out ∙ inv.0, omega (arith, inv.1, inv.2, sum, c.length.ensures.0.exact, ap group_length c.of-layout.ensures.1), omega (arith, sum, inv.2), turn)
