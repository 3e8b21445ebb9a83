-- What each public call gives back, for every input: number, place, value, and what it leaves in an output memory.
-- Document 01, Numbers given back, Samples and the small program; docs/RULES.md, 7, 8 and 12.
-- Assumes nothing.
use Rattle.std.specs.Prelude.{ℕ, zero, suc, ◌+◌, ◌/◌, ◌%◌, cond, List, [], ◌∷◌, ◌++◌, leb, ltb, length, drop, Float}
use Rattle.std.proofs.Math.Option.{Option, none, some}
use Rattle.std.proofs.Math.ListN.{get_elem?}
use Rattle.spec.specs.Answer.{Answer, refused, accepted, ◌>>=◌, require, present, map_answer, passed}
use Rattle.spec.specs.Reading.{Reading}
use Rattle.spec.specs.Records.{Logged}
use Rattle.spec.specs.Found.{FoundChannel, groups_in, records_in, read_body}
use Rattle.spec.specs.Walk.{walk, reads, most}
use Rattle.spec.specs.Canonical.{copy_length, canonical_copy}
use Rattle.spec.specs.Differences.{list_length, list_bytes}
use Rattle.spec.specs.Sample.{Stored, stored_sample, Raw, raw_value, part_of, physical_value}

-- success is number 0, place 0; a refused call has no value
pub record Outcome (A : Type 0) : Type 0 where
  pub number : ℕ
  pub place : ℕ
  pub value : Option A

abbrev pub outcome_of : {A : Type 0} → Answer A → Outcome A
outcome_of (refused n p) = record { number = n; place = p; value = none }
outcome_of (accepted a) = record { number = 0; place = 0; value = some a }

-- ---- check: 1 to 11 and 17 to 19

unfoldable pub check_outcome : List ℕ → Outcome (Unit {0})
check_outcome image = outcome_of (passed (walk image))

-- ---- copy: then 12, 13

-- the reading whose canonical copy goes into an output of this length
unfoldable pub copying : List ℕ → ℕ → Answer Reading
copying image room = do
  r ← reads image
  _ ← require (leb (copy_length r) most) 12 0
  _ ← require (leb (copy_length r) room) 13 (copy_length r)
  accepted r

-- what a call that fills an output gives, and leaves in it
pub record CopyOutcome : Type 0 where
  pub given : Outcome ℕ  -- the value: the length written
  pub memory : List ℕ

-- refused: the output is untouched. Made: the copy, and behind it what the output held there
abbrev pub copied : Answer Reading → List ℕ → CopyOutcome
copied (refused n p) out = record { given = outcome_of (refused n p); memory = out }
copied (accepted r) out = record { given = outcome_of (accepted (copy_length r)); memory = canonical_copy r ++ drop (copy_length r) out }

unfoldable pub copy_outcome : List ℕ → List ℕ → CopyOutcome
copy_outcome image out = copied (copying image (length out)) out

-- ---- compare: the first image's refusal before the second's, then 12, 13

pub record Pair : Type 0 where
  pub first : Reading
  pub second : Reading

-- two readings whose difference list goes into an output of this length
unfoldable pub comparing : List ℕ → List ℕ → ℕ → Answer Pair
comparing first second room = do
  r ← reads first
  s ← reads second
  _ ← require (leb (list_length r s) most) 12 0
  _ ← require (leb (list_length r s) room) 13 (list_length r s)
  accepted (record { first = r; second = s })

-- refused: the output is untouched. Made: the list, and behind it what the output held there
abbrev pub compared : Answer Pair → List ℕ → CopyOutcome
compared (refused n p) out = record { given = outcome_of (refused n p); memory = out }
compared (accepted x) out =
    record {
      given = outcome_of (accepted (list_length x.first x.second));
      memory = list_bytes x.first x.second ++ drop (list_length x.first x.second) out;
    }

unfoldable pub compare_outcome : List ℕ → List ℕ → List ℕ → CopyOutcome
compare_outcome first second out = compared (comparing first second (length out)) out

-- ---- sample, part, physical: then 14, 15; physical has 16 after these

-- a channel and a record of one group
pub record Asked : Type 0 where
  pub channel : FoundChannel
  pub row : Logged

-- the three indices begin at 0 and go by the reading
unfoldable pub asking : List ℕ → ℕ → ℕ → ℕ → Answer Asked
asking image group channel row = do
  f ← walk image
  g ← present (get_elem? (groups_in f.data_groups) group) 14 0
  c ← present (get_elem? g.group.channels channel) 14 0
  r ← present (get_elem? (records_in g) row) 14 0
  accepted (record { channel = c; row = r })

abbrev pub stored_at : Asked → Answer Stored
stored_at a = stored_sample a.channel.block.content.fields (a.channel.block.place + 190) a.row

unfoldable pub sampling : List ℕ → ℕ → ℕ → ℕ → Answer Stored
sampling image group channel row = do
  a ← asking image group channel row
  stored_at a

unfoldable pub sample_outcome : List ℕ → ℕ → ℕ → ℕ → Outcome Stored
sample_outcome image group channel row = outcome_of (sampling image group channel row)

-- the same with its raw value: what the call returns. Of NaN patterns the stored sample alone keeps the bits
unfoldable pub raw_outcome : List ℕ → ℕ → ℕ → ℕ → Outcome Raw
raw_outcome image group channel row = outcome_of (map_answer raw_value (sampling image group channel row))

-- the bytes that `part` hands back: none for a refusal and for every kind of sample but a part
abbrev pub part_in : List ℕ → Answer Stored → List ℕ
part_in image (refused n p) = []
part_in image (accepted s) = part_of image s

unfoldable pub part_outcome : List ℕ → ℕ → ℕ → ℕ → List ℕ
part_outcome image group channel row = part_in image (sampling image group channel row)

unfoldable pub physical_outcome : List ℕ → ℕ → ℕ → ℕ → Outcome Float
physical_outcome image group channel row = outcome_of do
  a ← asking image group channel row
  s ← stored_at a
  physical_value (read_body a.channel.conversion) s

-- ---- the small program (8)

-- the longest image that it takes, and the length of its output memory
abbrev pub program_most : ℕ
program_most = 32768

-- copying, but a longer image is 1 at 0, whatever it holds
unfoldable pub programming : List ℕ → ℕ → Answer Reading
programming image room = do
  _ ← require (leb (length image) program_most) 1 0
  copying image room

-- what its copy gives, and leaves in an output memory
unfoldable pub program_outcome : List ℕ → List ℕ → CopyOutcome
program_outcome image out = copied (programming image (length out)) out

-- the decimal digits of a number, of which a 64-bit one has 20 at most
abbrev pub digits : ℕ → ℕ → List ℕ → List ℕ
digits zero n after = after
digits (suc k) n after = cond (ltb n 10) ((48 + n) ∷ after) (digits k (n / 10) ((48 + n % 10) ∷ after))

abbrev pub decimal : ℕ → List ℕ
decimal n = digits 20 n []

-- number, one blank, place, newline
abbrev pub line : ℕ → ℕ → List ℕ
line number place = decimal number ++ (32 ∷ decimal place ++ (10 ∷ []))

abbrev pub printed : Answer Reading → List ℕ
printed (refused n p) = line n p
printed (accepted r) = canonical_copy r

-- what it writes to standard output
unfoldable pub program_output : List ℕ → List ℕ
program_output image = printed (programming image program_most)
