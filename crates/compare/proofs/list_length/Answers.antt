use Rattle.reading.specs.Steps.{reading_of}
use Rattle.compare.proofs.Outcomes.{reached_is}
use Rattle.compare.proofs.list_length.Goals as goal

pub returns : goal.returns
returns c = reached_is (reading_of c.args.f) (reading_of c.args.g) c.list_all.ensures
