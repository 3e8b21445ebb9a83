-- What the walk over data groups gives, as the code keeps it.
-- Assumes nothing.
use Rattle.std.specs.Prelude.{ℕ, ◌+◌, ◌-◌, ◌≤◌, ◌≡◌, List, [], leb, length, Result, Ok, Err}
use Rattle.spec.specs.Bytes.{u16, u32, to_link, is_nil}
use Rattle.spec.specs.Answer.{Answer, accepted, ◌>>=◌, require, passed}
use Rattle.spec.specs.Block.{Image}
use Rattle.spec.specs.Records.{log_of}
use Rattle.spec.specs.Walk.{data_group_list}
use Rattle.spec.specs.Call.{Outcome, outcome_of}
use Rattle.refusal.specs.declared.Refusal.{Refusal}
use Rattle.refusal.specs.Refused.{answer_of, done}
use Rattle.image.specs.declared.Span.{Span}
use Rattle.image.specs.Spans.{block_in}
use Rattle.walk.specs.declared.Cursor.{Cursor}
use Rattle.walk.specs.Steps.{◌then◌}
use Rattle.walk.specs.Lists.{groups_from}

-- how many channel groups and channels the file has so far
pub record Counts : Type 0 where
  pub groups : ℕ
  pub channels : ℕ

-- the groups of the data group in b, then its records; g groups and n channels before
unfoldable pub groups_then_log : Image → ℕ → ℕ → ℕ → Span → Answer Counts
groups_then_log image mode g n b = do
  s ← groups_from image mode [] [] (b.at + 8) (u32 8 (block_in image.bytes b)) g n
  passed (log_of image.bytes mode s.slots (b.at + 16) (to_link (u32 16 (block_in image.bytes b))))
      then accepted (record { groups = g + length s.slots; channels = s.channels })

unfoldable pub data_group_at : Image → ℕ → ℕ → Span → Answer Counts
data_group_at image g n b =
    require (is_nil (to_link (u32 12 (block_in image.bytes b)))) 6 (b.at + 12)
    then require (leb (u16 22 (block_in image.bytes b)) 2) 8 (b.at + 22)
    then groups_then_log image (u16 22 (block_in image.bytes b)) g n b

abbrev pub counts_met : Result Cursor Refusal → Answer Counts
counts_met = answer_of (λ (d : Cursor). record { groups = d.cgs; channels = d.cns })

-- past the data group in b
abbrev pub PastDataGroup : List ℕ → Cursor → Span → Result Cursor Refusal → Type 0
PastDataGroup image c b (Ok d) =
    (d.link.field ≡ b.at + 4) × (d.link.to ≡ u32 4 (block_in image b)) × (d.dgs ≡ c.dgs + 1) × (d.cgs ≤ 1024) × (d.cns ≤ 16384)
PastDataGroup image c b (Err e) = Unit {0}

-- from a link on, with d data groups, g channel groups and n channels before
unfoldable pub data_groups_from : Image → ℕ → ℕ → ℕ → ℕ → ℕ → Answer (Unit {0})
data_groups_from image field link d g n = passed (data_group_list image (1024 - d) (1024 - g) (16384 - n) field (to_link link))

-- the number and place of a check's result
abbrev pub outcome : Result (Unit {0}) Refusal → Outcome (Unit {0})
outcome r = outcome_of (done r)
