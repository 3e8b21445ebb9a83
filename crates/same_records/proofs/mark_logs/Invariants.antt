use Rattle.reading.specs.Steps.{log_left}
use Rattle.same_records.proofs.Marking.{Marking}
use lib.ListN.{length}
use mathlib.Core.Path.{◌≡◌}
use Rattle.same_records.proofs.mark_logs.Given as goal

abbrev pub invariant-loop-p : goal.invariant-loop-p
invariant-loop-p l = (length l.differs ≡ 256) × Marking (log_left l.fn.x) (log_left l.fn.y) (log_left l.p-iterator) (log_left l.d) l.differs
