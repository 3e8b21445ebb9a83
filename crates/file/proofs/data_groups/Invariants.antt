use Rattle.file.specs.DataGroups.{data_groups_from}
use Rattle.spec.specs.Block.{image_of}
use mathlib.Core.Path.{◌≡◌}
use Prim.Native.Nat.{◌-◌, ◌≤◌}
use Rattle.file.proofs.data_groups.Given as goal

abbrev pub invariant-loop-c : goal.invariant-loop-c
invariant-loop-c l =
    (l.c.dgs ≤ 1024)
    × (l.c.cgs ≤ 1024)
    × (l.c.cns ≤ 16384)
    × (data_groups_from (image_of l.image) l.initial.c.link.field l.initial.c.link.to l.initial.c.dgs l.initial.c.cgs l.initial.c.cns ≡ data_groups_from (image_of l.image) l.c.link.field l.c.link.to l.c.dgs l.c.cgs l.c.cns)

abbrev pub decreases-loop-c : goal.decreases-loop-c
decreases-loop-c l = 1024 - l.c.dgs
