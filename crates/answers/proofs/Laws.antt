-- Laws of answers, of bytes that are the same, of readings and of their canonical copies.
-- Assumes nothing.
pub use Rattle.spec.proofs.Answers.{step, pass, both, stop, fail, refuses, admits}
pub use Rattle.spec.proofs.Bytes.{same_refl, same_equal}
pub use Rattle.spec.proofs.Places.{length_body}
pub use Rattle.spec.proofs.Blocks.{length_cn, length_hd}
pub use Rattle.spec.proofs.Channels.{length_channel, length_channels}
pub use Rattle.spec.proofs.Groups.{length_group}
pub use Rattle.spec.proofs.Accepted.{accepted_well_formed}
pub use Rattle.spec.proofs.RoundTrip.{length_canonical}
pub use Rattle.spec.proofs.Facts.{program_writes_the_copy, program_writes_the_refusal}
