-- Readings, answers and bytes.
-- Assumes nothing.
pub use Rattle.spec.specs.Bytes.{All, Bytes, bytes_of, join, target}
pub use Rattle.spec.specs.Answer.{Answer, refused, accepted, ◌>>=◌, map_answer}
pub use Rattle.spec.specs.Block.{Kind, tx_kind, pr_kind, cc_kind, ce_kind, hd_written}
pub use Rattle.spec.specs.Reading.{Body, Channel, Group, Reading, version}
pub use Rattle.spec.specs.WellFormed.{WellFormedChannel, WellFormedGroup, WellFormed}
