-- What the public calls give back.
-- Assumes nothing.
pub use Rattle.spec.specs.Call.{Outcome, outcome_of, CopyOutcome, copied, compared, line, check_outcome}
unfoldable pub use Rattle.spec.specs.Call.{copying, copy_outcome, comparing, compare_outcome, programming, program_outcome, program_output}
