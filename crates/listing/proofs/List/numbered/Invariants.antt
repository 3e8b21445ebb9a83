use Rattle.listing.specs.Listing.{numbered}
use Rattle.listing.specs.Growing.{Listing}
use Prim.Native.Nat.{◌+◌, ◌-◌}
use Rattle.listing.proofs.List.numbered.Given as goal

abbrev pub invariant-loop-i : goal.invariant-loop-i
invariant-loop-i l = Listing (numbered l.kind l.group l.item l.n) l.initial.self l.self (numbered l.kind l.group l.i (l.item + l.n - l.i))
