-- What a compare call answers.
-- Assumes nothing.
use Rattle.std.specs.Prelude.{ℕ, ◌≡◌, List, Result}
use Rattle.answers.specs.Readings.{Reading}
use Rattle.answers.specs.Differences.{list_length}
use Rattle.answers.specs.Outcomes.{Outcome, outcome_of, CopyOutcome}
use Rattle.listing.specs.Listing.{capped}
use Rattle.refusal.specs.declared.Refusal.{Refusal}
use Rattle.refusal.specs.Refused.{answer_of}

-- a call's number, place and value: the length of the list
abbrev pub outcome : Result ℕ Refusal → Outcome ℕ
outcome r = outcome_of (answer_of (λ n. n) r)

-- the length of the list as far as it is needed
abbrev pub capped_length : Reading → Reading → ℕ
capped_length r s = capped (list_length r s)

-- an outcome, by what the function gives back and leaves in the output
abbrev pub ComparedAs : CopyOutcome → Result ℕ Refusal → List ℕ → Type 0
ComparedAs o r out = (outcome r ≡ o.given) × (out ≡ o.memory)
