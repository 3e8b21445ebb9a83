use Rattle.answers.specs.Copies.{channels_length, channels_bytes}
use Rattle.write.specs.Progress.{Progress}
use Rattle.reading.specs.Steps.{channels_left}
use Rattle.put_channels.proofs.Peeked.{ahead_left}
use Prim.Native.Nat.{◌+◌}
use lib.ListN.{length}
use mathlib.Core.Path.{◌≡◌}
use Rattle.put_channels.proofs.put_channels.Given as goal

abbrev pub invariant-loop-x : goal.invariant-loop-x
invariant-loop-x l = Progress (channels_bytes l.at (channels_left l.fn.channels)) l.initial.out l.out l.at l.to (channels_bytes l.to (ahead_left l.c)) × (l.to + channels_length (ahead_left l.c) ≡ l.at + channels_length (channels_left l.fn.channels))

abbrev pub decreases-loop-x : goal.decreases-loop-x
decreases-loop-x l = length (ahead_left l.c)
