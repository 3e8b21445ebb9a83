use Rattle.listing.proofs.Laws.{listed_short, listed_one}
use Rattle.answers.specs.Differences.{entry}
use Rattle.write.specs.Write.{wrote_as}
use mathlib.Core.List.{[], ◌∷◌}
use mathlib.Core.Path.{refl}
use native.Mathlib.Omega.{arith}
use Rattle.listing.proofs.List.entry.Goals as goal
use Rattle.listing.proofs.List.entry.Goals.{then-end-self, else-end-self}

pub returns : goal.returns
returns c =
    let a = c.args in
    let at = a.self.now.length.bytes in
    elim c.if-end-self.branch [
      | then-end-self w ↦ rw w.self-is record { lent = refl; listed = listed_one at c.cap-self.result.bytes (entry a.kind a.group a.item a.byte) c.cap-self.ensures (wrote_as w.put_all.ensures refl w.entry_bytes.ensures) }
      | else-end-self w ↦ rw w.self-is record { lent = refl; listed = listed_short at (entry a.kind a.group a.item a.byte ∷ []) c.cap-self.result.bytes c.cap-self.ensures (omega (arith, w.if-end-self.false)) }
    ]
