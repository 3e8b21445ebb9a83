use Rattle.listing.proofs.Laws.{grown_as}
use Rattle.answers.specs.Differences.{entry, unless}
use Rattle.reading.specs.Steps.{reading_of}
use Rattle.compare.proofs.Outcomes.{file_listed}
use mathlib.Core.Path.{ap}
use Rattle.compare.proofs.list_file.Goals as goal

pub returns : goal.returns
returns c =
    file_listed (reading_of c.args.f) (reading_of c.args.g)
    (grown_as c.unless.ensures (ap (λ t. unless t (entry 1 0 0 0)) c.same_ident.ensures))
    (grown_as c.unless-2.ensures (ap (λ t. unless t (entry 1 0 1 0)) c.same_header.ensures))
    (grown_as c.unless-3.ensures (ap (λ t. unless t (entry 1 0 2 0)) c.same_comment.ensures))
    (grown_as c.unless-4.ensures (ap (λ t. unless t (entry 1 0 3 0)) c.same_program.ensures))
