use Rattle.std.proofs.Math.Nat.{div-div-eq-div-mul}
use Rattle.mdf3.proofs.answer_bytes.Goals as goal

pub returns : goal.returns
returns c =
    simp (
      c.copy_from_slice.ensures.after,
      c.copy_from_slice-2.ensures.after,
      c.copy_from_slice-3.ensures.after,
      c.copy_from_slice-4.ensures.after,
      c.to_le_bytes.ensures,
      c.to_le_bytes-2.ensures,
      c.to_le_bytes-3.ensures,
      c.to_le_bytes-4.ensures,
      div-div-eq-div-mul,
    )
