use Rattle.walk.proofs.Tables.{Listing}
use Rattle.spec.specs.Block.{image_of}
use lib.ListN.{length}
use mathlib.Core.Path.{◌≡◌}
use Prim.Native.Nat.{◌-◌, ◌≤◌}
use Rattle.walk.proofs.group_list.Given as goal

abbrev pub invariant-loop-c : goal.invariant-loop-c
invariant-loop-c l =
    (length l.slots ≡ 1024)
    × (l.c.dgs ≡ l.initial.c.dgs)
    × (l.initial.c.cgs ≤ l.c.cgs)
    × (l.c.cgs ≤ 1024)
    × (l.c.cns ≤ 16384)
    × Listing (image_of l.image) l.mode l.initial.c.link.field l.initial.c.link.to l.initial.c.cgs l.initial.c.cns l.slots (l.c.cgs - l.initial.c.cgs) l.c.link.field l.c.link.to l.c.cgs l.c.cns

abbrev pub decreases-loop-c : goal.decreases-loop-c
decreases-loop-c l = 1024 - l.c.cgs
