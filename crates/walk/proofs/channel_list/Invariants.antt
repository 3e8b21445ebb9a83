use Rattle.walk.specs.Lists.{channels_from}
use Rattle.spec.specs.Block.{image_of}
use mathlib.Core.Path.{◌≡◌}
use Prim.Native.Nat.{◌-◌, ◌≤◌}
use Rattle.walk.proofs.channel_list.Given as goal

abbrev pub invariant-loop-c : goal.invariant-loop-c
invariant-loop-c l =
    (l.c.dgs ≡ l.initial.c.dgs)
    × (l.c.cgs ≡ l.initial.c.cgs)
    × (l.initial.c.cns ≤ l.c.cns)
    × (l.c.cns ≤ 16384)
    × (channels_from (image_of l.image) l.size l.initial.c.link.field l.initial.c.link.to l.initial.c.cns ≡ channels_from (image_of l.image) l.size l.c.link.field l.c.link.to l.c.cns)

abbrev pub decreases-loop-c : goal.decreases-loop-c
decreases-loop-c l = 16384 - l.c.cns
