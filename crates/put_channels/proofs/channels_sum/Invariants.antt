use Rattle.answers.specs.Copies.{channels_length}
use Rattle.reading.specs.Steps.{channels_left}
use Prim.Native.Nat.{◌+◌, ◌≤◌}
use lib.ListN.{length}
use mathlib.Core.Path.{◌≡◌}
use Rattle.put_channels.proofs.channels_sum.Given as goal

abbrev pub invariant-loop-x : goal.invariant-loop-x
invariant-loop-x l = (l.sum.length ≤ 2147483647) × (l.sum.count ≤ l.sum.length) × (l.sum.length + channels_length (channels_left l.x-iterator) ≡ channels_length (channels_left l.initial.channels)) × (l.sum.count + length (channels_left l.x-iterator) ≡ length (channels_left l.initial.channels))
