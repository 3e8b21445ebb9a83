use mathlib.Core.List.{map}
use lib.ListN.{take}
use Rattle.spec.specs.Bytes.{bytes_of, join}
use Rattle.write.specs.Write.{Wrote}
use Rattle.blocks.proofs.put_links.Given as goal

abbrev pub invariant-loop-k : goal.invariant-loop-k
invariant-loop-k l = Wrote l.initial.out l.out l.at (join (map (bytes_of 4) (take l.k l.links)))
