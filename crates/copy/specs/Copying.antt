-- The front of a copy, and what the call answers.
-- Assumes nothing.
use Rattle.std.specs.Prelude.{ℕ, ◌+◌, ◌≤◌, ◌<◌, ◌≡◌, List, ◌++◌, Result, length}
use Rattle.refusal.specs.declared.Refusal.{Refusal}
use Rattle.refusal.specs.Refused.{answer_of}
use Rattle.answers.specs.Readings.{Reading, version, hd_written}
use Rattle.answers.specs.Copies.{body_length, hd_of, write_hd}
use Rattle.answers.specs.Outcomes.{Outcome, outcome_of}
use Rattle.reading.specs.Bodies.{BodyIs}
use Rattle.copy.specs.declared.Front.{Front}

-- a call's number, place and value: the length of the copy
abbrev pub outcome : Result ℕ Refusal → Outcome ℕ
outcome r = outcome_of (answer_of (λ n. n) r)

-- what stands before the groups: the header's size, comment and program with their places, and the place behind them
pub record FrontIs (t : Front) (r : Reading) : Type 0 where
  pub size : t.size ≡ hd_written (version r)
  pub least : 164 ≤ t.size
  pub largest : t.size ≤ 208
  pub comment : BodyIs t.comment r.comment
  pub program : BodyIs t.program r.program
  pub tx : t.tx ≡ 64 + hd_written (version r)
  pub pr : t.pr ≡ 64 + hd_written (version r) + body_length r.comment
  pub first : t.first ≡ 64 + hd_written (version r) + body_length r.comment + body_length r.program
  pub near : t.first < 200000

-- ID and HD
unfoldable pub id_hd_bytes : Reading → List ℕ
id_hd_bytes r = r.ident ++ write_hd (version r) (length r.groups) (hd_of r)
