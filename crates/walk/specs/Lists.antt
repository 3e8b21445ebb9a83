-- What the lists give, as the code keeps it: counts, and the slots of channel groups.
-- Assumes nothing.
use Rattle.std.specs.Prelude.{ℕ, ◌+◌, ◌-◌, ◌≤◌, ◌≡◌, Bool, List, ◌++◌, map, length, take, Result, Ok, Err}
use Rattle.spec.specs.Bytes.{u16, u32, to_link}
use Rattle.spec.specs.Answer.{Answer, refused, accepted, map_answer}
use Rattle.spec.specs.Block.{Image, read_cg}
use Rattle.spec.specs.Records.{Slot}
use Rattle.spec.specs.Found.{FoundGroup, slot_of}
use Rattle.spec.specs.Walk.{channel_list, group_list, channel_count}
use Rattle.refusal.specs.declared.Refusal.{Refusal}
use Rattle.refusal.specs.Refused.{number_of, answer_of}
use Rattle.image.specs.declared.Span.{Span}
use Rattle.image.specs.Spans.{block_in, opened_as}
use Rattle.records.specs.declared.Slot as code
use Rattle.records.specs.Slots.{slots_of}
use Rattle.walk.specs.declared.Cursor.{Cursor}
use Rattle.walk.specs.Steps.{◌then◌, group_head}

-- a cursor at a link field with its link, with these counts
abbrev pub StandsAt : Cursor → ℕ → ℕ → ℕ → ℕ → ℕ → Type 0
StandsAt c field link dgs cgs cns = (c.link.field ≡ field) × (c.link.to ≡ link) × (c.dgs ≡ dgs) × (c.cgs ≡ cgs) × (c.cns ≡ cns)

-- ---- channels

-- from a link on, with n channels before: how many there are then
unfoldable pub channels_from : Image → ℕ → ℕ → ℕ → ℕ → Answer ℕ
channels_from image size field link n = map_answer (λ xs. n + length xs) (channel_list image (16384 - n) size field (to_link link))

abbrev pub channels_met : Result Cursor Refusal → Answer ℕ
channels_met = answer_of (λ (d : Cursor). d.cns)

-- the walk over a group's channels leaves the other counts
abbrev pub OnlyChannels : Cursor → Result Cursor Refusal → Type 0
OnlyChannels c (Ok d) = (d.dgs ≡ c.dgs) × (d.cgs ≡ c.cgs) × (c.cns ≤ d.cns) × (d.cns ≤ 16384)
OnlyChannels c (Err e) = Unit {0}

-- ---- channel groups

-- the IDs of the code's slots
abbrev pub ids_of : List code.Slot → List ℕ
ids_of = map (λ (s : code.Slot). s.id)

-- one group: how many channels there are with its own, n without
unfoldable pub group_at : Image → ℕ → Bool → ℕ → Span → Answer ℕ
group_at image mode known n b =
    group_head image mode known (opened_as (read_cg image.version) image.bytes b) then channels_from image (u16 20 (block_in image.bytes b)) (b.at + 8) (u32 8 (block_in image.bytes b)) n

-- past the group in b
abbrev pub PastGroup : List ℕ → Cursor → Span → Result Cursor Refusal → Type 0
PastGroup image c b (Ok d) =
    (d.link.field ≡ b.at + 4) × (d.link.to ≡ u32 4 (block_in image b)) × (d.dgs ≡ c.dgs) × (d.cgs ≡ c.cgs + 1) × (d.cns ≤ 16384)
PastGroup image c b (Err e) = Unit {0}

-- the slot of the group in b
abbrev pub slot_in : List ℕ → Span → Slot
slot_in image b =
    record { record_id = u16 16 (block_in image b); record_size = u16 20 (block_in image b); record_count = u32 22 (block_in image b) }

-- the groups of a data group: their slots, and how many channels there are then
pub record Summary : Type 0 where
  pub slots : List Slot
  pub channels : ℕ

abbrev pub summed : List Slot → ℕ → Answer (List FoundGroup) → Answer Summary
summed ss n (refused k p) = refused k p
summed ss n (accepted gs) = accepted (record { slots = ss ++ map slot_of gs; channels = n + channel_count gs })

-- from a link on, with g groups and n channels before in the file, and ss and used of this data group
unfoldable pub groups_from : Image → ℕ → List Slot → List ℕ → ℕ → ℕ → ℕ → ℕ → Answer Summary
groups_from image mode ss used field link g n = summed ss n (group_list image (1024 - g) (16384 - n) mode used field (to_link link))

-- the slots that the code's table holds, of the groups from c on
abbrev pub groups_met : Cursor → Result Cursor Refusal → List code.Slot → Answer Summary
groups_met c (Ok d) slots = accepted (record { slots = slots_of (take (d.cgs - c.cgs) slots); channels = d.cns })
groups_met c (Err e) slots = refused (number_of e.reason) e.place

abbrev pub OnlyGroups : Cursor → Result Cursor Refusal → Type 0
OnlyGroups c (Ok d) = (d.dgs ≡ c.dgs) × (c.cgs ≤ d.cgs) × (d.cgs ≤ 1024) × (d.cns ≤ 16384)
OnlyGroups c (Err e) = Unit {0}
