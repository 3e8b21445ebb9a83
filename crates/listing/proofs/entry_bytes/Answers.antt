use Rattle.std.proofs.Math.Nat.{div-div-eq-div-mul}
use Rattle.listing.proofs.entry_bytes.Goals as goal

pub returns : goal.returns
returns c = simp (c.to_le_bytes.ensures, c.to_le_bytes-2.ensures, c.to_le_bytes-3.ensures, c.to_le_bytes-4.ensures, div-div-eq-div-mul)
