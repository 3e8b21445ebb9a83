-- Worked examples: images built byte by byte, and what each call gives for them. Document 01, Postings to agree with; docs/RULES.md, 10 and 12.
-- The first table has every example that document 01 marks. The others are ours, for refusals, layout, samples and differences. Too large to compute here: 1, 12, and 7 for channels.
-- Assumes nothing.
use Rattle.std.specs.Prelude.{ℕ, zero, suc, ◌+◌, ◌-◌, ◌%◌, ◌≡◌, true, false, List, [], ◌∷◌, ◌++◌, map, length, take, drop, replicate, pos, negsuc, Float}
use Rattle.std.proofs.Math.Option.{none, some}
use Rattle.std.specs.Float.{nan, inf, fin}
use Rattle.spec.specs.Bytes.{bytes_of, join}
use Rattle.spec.specs.Answer.{Answer, refused, accepted, map_answer, passed}
use Rattle.spec.specs.Block.{image_of}
use Rattle.spec.specs.Reading.{Body, Channel, Group, Reading}
use Rattle.spec.specs.Walk.{channel_list, group_list, data_group_list, most, reads}
use Rattle.spec.specs.Differences.{Entry, entry, entry_bytes, differences}
use Rattle.spec.specs.Sample.{part, Raw, natural, integer, float32, float64, bytes_at}
use Rattle.spec.specs.Call.{Outcome, CopyOutcome, check_outcome, copy_outcome, compare_outcome, sample_outcome, raw_outcome, part_outcome, physical_outcome, program_outcome, decimal, program_output}

-- ---- what an example says

pub data Example : Type 0 where
  checked : List ℕ → ℕ → ℕ → Example  -- image; number and place of check
  recorded : List ℕ → List (List (List ℕ)) → Example  -- image; the records of each group of its reading
  copies : List ℕ → List ℕ → CopyOutcome → Example  -- image, output memory; what copy gives and leaves
  compares : List ℕ → List ℕ → List ℕ → CopyOutcome → Example  -- two images, output memory; what compare gives and leaves
  differ : Reading → Reading → List Entry → Example  -- two readings; the entries of their difference list
  sampled : List ℕ → Outcome Raw → Example  -- image; its sample 0 of channel 0 of group 0
  asked : List ℕ → ℕ → ℕ → ℕ → ℕ → ℕ → Example  -- image, group, channel, record; number and place of sample
  parted : List ℕ → List ℕ → Example  -- image; the part that is its sample 0, 0, 0
  converts : List ℕ → Outcome Float → Example  -- image; the physical value of its sample 0, 0, 0
  prints : List ℕ → List ℕ → Example  -- standard input, standard output of the program

abbrev pub records_read : Reading → List (List (List ℕ))
records_read r = map (λ (g : Group). g.records) r.groups

pub data Result : Type 0 where
  numbers_result : ℕ → ℕ → Result
  records_result : Answer (List (List (List ℕ))) → Result
  copy_result : CopyOutcome → Result
  entries_result : List Entry → Result
  raw_result : Outcome Raw → Result
  float_result : Outcome Float → Result
  bytes_result : List ℕ → Result

-- what the definitions give
abbrev pub given : Example → Result
given (checked image number place) = numbers_result (check_outcome image).number (check_outcome image).place
given (recorded image rows) = records_result (map_answer records_read (reads image))
given (copies image memory outcome) = copy_result (copy_outcome image memory)
given (compares first second memory outcome) = copy_result (compare_outcome first second memory)
given (differ first second entries) = entries_result (differences first second)
given (sampled image outcome) = raw_result (raw_outcome image 0 0 0)
given (asked image group channel row number place) = numbers_result (raw_outcome image group channel row).number (raw_outcome image group channel row).place
given (parted image bytes) = bytes_result (part_outcome image 0 0 0)
given (converts image outcome) = float_result (physical_outcome image 0 0 0)
given (prints input output) = bytes_result (program_output input)

-- what the example says
abbrev pub expected : Example → Result
expected (checked image number place) = numbers_result number place
expected (recorded image rows) = records_result (accepted rows)
expected (copies image memory outcome) = copy_result outcome
expected (compares first second memory outcome) = copy_result outcome
expected (differ first second entries) = entries_result entries
expected (sampled image outcome) = raw_result outcome
expected (asked image group channel row number place) = numbers_result number place
expected (parted image bytes) = bytes_result bytes
expected (converts image outcome) = float_result outcome
expected (prints input output) = bytes_result output

-- every example of a table agrees with the definitions
abbrev pub Agree : List Example → Type 0
Agree table = map given table ≡ map expected table

abbrev pub success : {A : Type 0} → A → Outcome A
success a = record { number = 0; place = 0; value = some a }

abbrev pub refusal : {A : Type 0} → ℕ → ℕ → Outcome A
refusal number place = record { number = number; place = place; value = none }

-- ---- blocks

-- n bytes that count up from x, so that fields differ
abbrev pub counting : ℕ → ℕ → List ℕ
counting x zero = []
counting x (suc n) = x % 256 ∷ counting (x + 1) n

abbrev pub zeros : ℕ → List ℕ
zeros n = replicate n 0

abbrev pub mdf : List ℕ
mdf = 77 ∷ 68 ∷ 70 ∷ 32 ∷ 32 ∷ 32 ∷ 32 ∷ 32 ∷ []

-- identifier, byte order, float format, version
abbrev pub id_block : List ℕ → ℕ → ℕ → ℕ → List ℕ
id_block name order floats version = join (name ∷ counting 1 16 ∷ bytes_of 2 order ∷ bytes_of 2 floats ∷ bytes_of 2 version ∷ counting 40 34 ∷ [])

-- first DG, comment, program, DG count
abbrev pub hd_block : ℕ → ℕ → ℕ → ℕ → List ℕ
hd_block first comment program count =
    join ((72 ∷ 68 ∷ []) ∷ bytes_of 2 164 ∷ bytes_of 4 first ∷ bytes_of 4 comment ∷ bytes_of 4 program ∷ bytes_of 2 count ∷ counting 100 146 ∷ [])

-- next, first CG, trigger, data, CG count, mode
abbrev pub dg_block : ℕ → ℕ → ℕ → ℕ → ℕ → ℕ → List ℕ
dg_block next first trigger records count mode =
    join ((68 ∷ 71 ∷ []) ∷ bytes_of 2 28 ∷ bytes_of 4 next ∷ bytes_of 4 first ∷ bytes_of 4 trigger ∷ bytes_of 4 records ∷ bytes_of 2 count ∷ bytes_of 2 mode ∷ zeros 4 ∷ [])

-- next, first CN, comment, record ID, CN count, record size, record count, sample reduction
abbrev pub cg_block : ℕ → ℕ → ℕ → ℕ → ℕ → ℕ → ℕ → ℕ → List ℕ
cg_block next first comment record_id count size records reduction =
    join ((67 ∷ 71 ∷ []) ∷ bytes_of 2 30 ∷ bytes_of 4 next ∷ bytes_of 4 first ∷ bytes_of 4 comment ∷ bytes_of 2 record_id ∷ bytes_of 2 count ∷ bytes_of 2 size ∷ bytes_of 4 records ∷ bytes_of 4 reduction ∷ [])

-- links: CC, CE, CD, comment; type, start bit, bits, data type; last: long name, display name, added byte offset
abbrev pub cn_block : List ℕ → ℕ → ℕ → ℕ → ℕ → List ℕ → List ℕ
cn_block links type start bits data_type last =
    join
    ((67 ∷ 78 ∷ [])
    ∷ bytes_of 2 228
    ∷ zeros 4
    ∷ links
    ∷ bytes_of 2 type
    ∷ counting 3 160
    ∷ bytes_of 2 start
    ∷ bytes_of 2 bits
    ∷ bytes_of 2 data_type
    ∷ counting 5 26
    ∷ last
    ∷ [])

-- a channel without links
abbrev pub signal : ℕ → ℕ → ℕ → List ℕ
signal start bits data_type = cn_block (zeros 16) 0 start bits data_type (zeros 10)

abbrev pub links4 : ℕ → ℕ → ℕ → ℕ → List ℕ
links4 a b c d = join (bytes_of 4 a ∷ bytes_of 4 b ∷ bytes_of 4 c ∷ bytes_of 4 d ∷ [])

-- two characters, and a body
abbrev pub small : ℕ → ℕ → List ℕ → List ℕ
small first second body = join ((first ∷ second ∷ []) ∷ bytes_of 2 (4 + length body) ∷ body ∷ [])

abbrev pub text : List ℕ → List ℕ
text body = small 84 88 body

-- formula, and what follows it
abbrev pub conversion : ℕ → List ℕ → List ℕ
conversion formula more = small 67 67 (join (counting 7 38 ∷ bytes_of 2 formula ∷ more ∷ []))

-- ---- images

abbrev pub id300 : List ℕ
id300 = id_block mdf 0 0 300

-- no data group
abbrev pub plain300 : List ℕ
plain300 = id300 ++ hd_block 0 0 0 0

abbrev pub plain320 : List ℕ
plain320 = id_block mdf 0 0 320 ++ hd_block 0 0 0 0

abbrev pub copy320 : List ℕ
copy320 =
    join (id_block mdf 0 0 320 ∷ (72 ∷ 68 ∷ []) ∷ bytes_of 2 208 ∷ zeros 12 ∷ bytes_of 2 0 ∷ counting 100 146 ∷ zeros 44 ∷ [])

-- DG at 228, CG at 256 and 286, CN of the first at 316, data at 544. The three counts that are not read are wrong
abbrev pub two_groups : ℕ → List ℕ → List ℕ
two_groups mode bytes =
    join
    (id300
    ∷ hd_block 228 0 0 9
    ∷ dg_block 0 256 0 544 7 mode
    ∷ cg_block 286 316 0 1 9 2 2 0
    ∷ cg_block 0 0 0 2 9 1 1 0
    ∷ signal 0 16 0
    ∷ bytes
    ∷ [])

abbrev pub mode1 : List ℕ
mode1 = two_groups 1 (1 ∷ 0xAA ∷ 0xBB ∷ 2 ∷ 0xCC ∷ 1 ∷ 0xDD ∷ 0xEE ∷ [])

abbrev pub mode2 : List ℕ
mode2 = two_groups 2 (1 ∷ 0xAA ∷ 0xBB ∷ 1 ∷ 2 ∷ 0xCC ∷ 2 ∷ 1 ∷ 0xDD ∷ 0xEE ∷ 1 ∷ [])

abbrev pub two_groups_read : List (List (List ℕ))
two_groups_read = ((0xAA ∷ 0xBB ∷ []) ∷ (0xDD ∷ 0xEE ∷ []) ∷ []) ∷ ((0xCC ∷ []) ∷ []) ∷ []

-- DG 228, CG 256, CN 286, records 514, DG 518, CG 546, record 576, length 577
abbrev pub two_groups_copy : List ℕ
two_groups_copy =
    join
    (id300
    ∷ hd_block 228 0 0 2
    ∷ dg_block 518 256 0 514 1 0
    ∷ cg_block 0 286 0 0 1 2 2 0
    ∷ signal 0 16 0
    ∷ (0xAA ∷ 0xBB ∷ 0xDD ∷ 0xEE ∷ [])
    ∷ dg_block 0 546 0 576 1 0
    ∷ cg_block 0 0 0 0 0 1 1 0
    ∷ (0xCC ∷ [])
    ∷ [])

-- one group, mode 0: DG at 228, CG at 256, this CN at 286, more from 514 on, where the data link points
abbrev pub one_group : ℕ → ℕ → List ℕ → List ℕ → List ℕ
one_group size records cn more =
    join (id300 ∷ hd_block 228 0 0 1 ∷ dg_block 0 256 0 514 1 0 ∷ cg_block 0 286 0 0 1 size records 0 ∷ cn ∷ more ∷ [])

-- a record in which the channel has this start, these bits and this data type
abbrev pub one_record : ℕ → ℕ → ℕ → ℕ → List ℕ → List ℕ
one_record size start bits data_type bytes = one_group size 1 (signal start bits data_type) bytes

-- an output memory
abbrev pub room : ℕ → List ℕ
room n = replicate n 0x5A

-- ---- the marked examples

unfoldable pub marked : List Example
marked =
    checked [] 2 0
    ∷ checked (counting 77 63) 2 0
    ∷ checked (mdf ++ zeros 55) 2 0
    ∷ copies plain300 (room 230) (record { given = success 228; memory = plain300 ++ room 2 })
    ∷ copies plain320 (room 272) (record { given = success 272; memory = copy320 })
    ∷ sampled (one_record 2 4 8 0 (0x34 ∷ 0x12 ∷ [])) (success (natural 0x23))
    ∷ sampled (one_record 2 4 8 9 (0x34 ∷ 0x12 ∷ [])) (success (natural 0x41))
    ∷ sampled (one_record 1 0 4 1 (0b01011000 ∷ [])) (success (integer (negsuc 7)))
    ∷ sampled (one_record 1 0 4 1 (0b10100111 ∷ [])) (success (integer (pos 7)))
    ∷ sampled (one_record 1 3 1 1 (0b00001000 ∷ [])) (success (integer (negsuc 0)))
    ∷ recorded mode1 two_groups_read
    ∷ recorded mode2 two_groups_read
    ∷ copies mode1 (room 577) (record { given = success 577; memory = two_groups_copy })
    ∷ copies mode2 (room 600) (record { given = success 577; memory = two_groups_copy ++ room 23 })
    ∷ copies mode1 (room 576) (record { given = refusal 13 577; memory = room 576 })
    ∷ sampled (one_record 15 57 63 0 (zeros 7 ++ (1 ∷ 0 ∷ 0 ∷ 0 ∷ 0 ∷ 0 ∷ 0 ∷ 0x80 ∷ []))) (success (natural 0x4000000000000000))
    ∷ sampled (one_record 16 57 64 0 (zeros 16)) (refusal 15 476)
    ∷ []

-- proved in proofs/Examples.antt
abbrev pub MarkedExamplesAgree : Type 0
MarkedExamplesAgree = Agree marked

-- ---- examples of our own

-- a header alone
abbrev pub header : List ℕ → List ℕ
header hd = id300 ++ hd

-- one data group at 228, and more from 256 on
abbrev pub one_data_group : List ℕ → List ℕ → List ℕ
one_data_group dg more = join (id300 ∷ hd_block 228 0 0 1 ∷ dg ∷ more ∷ [])

-- one channel group at 256, and more from 286 on; the data link points to 514
abbrev pub one_channel_group : ℕ → List ℕ → List ℕ → List ℕ
one_channel_group mode cg more = one_data_group (dg_block 0 256 0 514 1 mode) (cg ++ more)

-- an image, its ID being that of this version
abbrev pub of_version : ℕ → List ℕ → List ℕ
of_version version image = id_block mdf 0 0 version ++ drop 64 image

-- one channel at 286, in a group of record size 2 without records, and more from 514 on
abbrev pub one_channel : List ℕ → List ℕ → List ℕ
one_channel cn more = one_group 2 0 cn more

-- every body there is, shared and in another order than the copy's
abbrev pub everything : List ℕ
everything =
    join
    (id300
    ∷ hd_block 559 228 232 1
    ∷ text []
    ∷ small 80 82 (1 ∷ 2 ∷ 3 ∷ [])
    ∷ small 67 69 (4 ∷ 5 ∷ [])
    ∷ conversion 65535 (0 ∷ 0 ∷ [])
    ∷ text (97 ∷ 98 ∷ [])
    ∷ cn_block (links4 245 239 0 291) 1 0 8 0 (join (bytes_of 4 291 ∷ bytes_of 4 228 ∷ bytes_of 2 0 ∷ []))
    ∷ cg_block 0 297 291 200 1 1 2 0
    ∷ (200 ∷ 0x11 ∷ 200 ∷ 0x22 ∷ [])
    ∷ dg_block 0 525 0 555 1 1
    ∷ [])

abbrev pub everything_copy : List ℕ
everything_copy =
    join
    (id300
    ∷ hd_block 239 228 232 1
    ∷ text []
    ∷ small 80 82 (1 ∷ 2 ∷ 3 ∷ [])
    ∷ dg_block 0 267 0 599 1 0
    ∷ cg_block 0 303 297 0 1 1 2 0
    ∷ text (97 ∷ 98 ∷ [])
    ∷ cn_block (links4 531 577 0 583) 1 0 8 0 (join (bytes_of 4 589 ∷ bytes_of 4 595 ∷ bytes_of 2 0 ∷ []))
    ∷ conversion 65535 (0 ∷ 0 ∷ [])
    ∷ small 67 69 (4 ∷ 5 ∷ [])
    ∷ text (97 ∷ 98 ∷ [])
    ∷ text (97 ∷ 98 ∷ [])
    ∷ text []
    ∷ (0x11 ∷ 0x22 ∷ [])
    ∷ [])

-- a header of 173 bytes from version 320 on: of the later fields the first is inside, the second is not
abbrev pub short_later : List ℕ
short_later = join (id_block mdf 0 0 320 ∷ (72 ∷ 68 ∷ []) ∷ bytes_of 2 173 ∷ zeros 14 ∷ counting 100 146 ∷ counting 1 9 ∷ [])

abbrev pub short_later_copy : List ℕ
short_later_copy = join (id_block mdf 0 0 320 ∷ (72 ∷ 68 ∷ []) ∷ bytes_of 2 208 ∷ zeros 14 ∷ counting 100 146 ∷ counting 1 8 ∷ zeros 36 ∷ [])

-- a header of 208 bytes below version 320
abbrev pub long_header : List ℕ
long_header = join (id300 ∷ (72 ∷ 68 ∷ []) ∷ bytes_of 2 208 ∷ zeros 14 ∷ counting 100 146 ∷ counting 1 44 ∷ [])

-- one record, and behind it the CC of its channel
abbrev pub with_conversion : ℕ → ℕ → List ℕ → List ℕ → List ℕ
with_conversion bits data_type bytes cc = one_group (length bytes) 1 (cn_block (links4 (514 + length bytes) 0 0 0) 0 0 bits data_type (zeros 10)) (bytes ++ cc)

-- 64-bit floats: 0.0, 40.0, infinity, the largest finite one
abbrev pub f64_zero : List ℕ
f64_zero = zeros 8

abbrev pub f64_forty : List ℕ
f64_forty = bytes_of 8 0x4044000000000000

abbrev pub f64_inf : List ℕ
f64_inf = bytes_of 8 0x7FF0000000000000

abbrev pub f64_most : List ℕ
f64_most = bytes_of 8 0x7FEFFFFFFFFFFFFF

-- a text of 20,000 bytes shared by the file and by one group
abbrev pub shared_text : List ℕ
shared_text = join (id300 ∷ hd_block 228 286 0 1 ∷ dg_block 0 256 0 0 1 0 ∷ cg_block 0 0 286 0 0 0 0 0 ∷ text (zeros 19996) ∷ [])

-- Of endless lists, the 1,025th data group is reached from the second of two, the 1,025th channel group from a data group that has two.
unfoldable pub checks : List Example
checks =
    checked (id_block (77 ∷ 68 ∷ 70 ∷ 32 ∷ 32 ∷ 32 ∷ 32 ∷ 0 ∷ []) 0 0 300 ++ hd_block 0 0 0 0) 2 0
    ∷ checked (id_block (85 ∷ 110 ∷ 70 ∷ 105 ∷ 110 ∷ 77 ∷ 70 ∷ 32 ∷ []) 0 0 300 ++ hd_block 0 0 0 0) 3 0
    ∷ checked (id_block mdf 256 1 299 ++ hd_block 0 0 0 0) 4 24
    ∷ checked (id_block mdf 0 1 299 ++ hd_block 0 0 0 0) 4 26
    ∷ checked (id_block mdf 0 0 299 ++ hd_block 0 0 0 0) 4 28
    ∷ checked (id_block mdf 0 0 400) 4 28
    ∷ checked (id_block mdf 0 0 399 ++ hd_block 0 0 0 0) 0 0
    ∷ checked id300 5 64
    ∷ checked (header (hd_block 1 1 1 0)) 17 72
    ∷ checked (header (hd_block 1 0 1 0)) 17 76
    ∷ checked (header (hd_block 227 0 0 0)) 5 68
    ∷ checked (header (hd_block 4294967295 0 0 0)) 5 68
    ∷ checked (header (hd_block 0 0 228 0) ++ text []) 17 76
    ∷ checked (header (hd_block 0 0 228 0) ++ small 80 82 []) 0 0
    ∷ checked (one_data_group (dg_block 0 1 1 1 0 3) []) 6 240
    ∷ checked (one_data_group (dg_block 0 1 0 1 0 3) []) 8 250
    ∷ checked (one_data_group (dg_block 256 0 0 1 0 2) (dg_block 228 0 0 1 0 2)) 7 260
    ∷ checked (one_data_group (dg_block 228 256 0 0 0 1) (cg_block 286 0 0 1 0 0 0 0 ++ cg_block 0 0 0 2 0 0 0 0)) 7 236
    ∷ checked (one_data_group (dg_block 1 0 0 4294967295 0 2) []) 17 232
    ∷ checked (one_data_group (dg_block 0 1 0 0 0 2) []) 17 236
    ∷ checked (of_version 330 (one_channel_group 1 (cg_block 1 1 1 256 0 0 1 1) [])) 6 282
    ∷ checked (one_channel_group 1 (cg_block 1 1 1 256 0 0 1 0) []) 8 272
    ∷ checked (one_channel_group 0 (cg_block 1 1 1 256 0 0 1 0) []) 17 268
    ∷ checked (one_channel_group 0 (cg_block 1 1 0 256 0 0 1 0) []) 10 276
    ∷ checked (one_channel_group 0 (cg_block 1 1 0 256 0 1 1 0) []) 17 264
    ∷ checked (one_channel_group 0 (cg_block 1 0 0 256 0 1 1 0) []) 8 260
    ∷ checked (one_channel_group 1 (cg_block 1 0 0 255 0 1 1 0) []) 17 260
    ∷ checked (one_channel_group 1 (cg_block 256 0 0 7 0 1 1 0) []) 8 272
    ∷ checked (one_channel_group 0 (cg_block 0 0 0 256 0 0 0 0) []) 0 0
    ∷ checked (one_channel_group 0 (cg_block 0 0 0 0 0 1 1 0) []) 11 514
    ∷ checked (one_data_group (dg_block 1 256 0 0 0 0) (cg_block 0 0 0 0 0 1 1 0)) 11 244
    ∷ checked (one_channel (cn_block (links4 1 1 1 1) 2 1 16 17 (zeros 10)) []) 17 294
    ∷ checked (one_channel (cn_block (links4 514 1 1 1) 2 1 16 17 (zeros 10)) (conversion 12 (0 ∷ 0 ∷ []))) 6 556
    ∷ checked (one_channel (cn_block (links4 514 1 1 1) 2 1 16 17 (zeros 10)) (conversion 11 (0 ∷ 0 ∷ []))) 17 298
    ∷ checked (one_channel (cn_block (links4 0 0 1 1) 2 1 16 17 (zeros 10)) []) 6 302
    ∷ checked (one_channel (cn_block (links4 0 0 0 1) 2 1 16 17 (zeros 10)) []) 17 306
    ∷ checked (one_channel (cn_block (zeros 16) 2 1 16 17 (counting 1 10)) []) 9 310
    ∷ checked (one_channel (cn_block (zeros 16) 1 1 16 17 (counting 1 8 ++ zeros 2)) []) 9 472
    ∷ checked (one_channel (cn_block (zeros 16) 1 0 16 17 (counting 1 8 ++ zeros 2)) []) 9 476
    ∷ checked (one_channel (cn_block (zeros 16) 1 0 16 16 (counting 1 8 ++ zeros 2)) []) 5 504
    ∷ checked (one_channel (cn_block (zeros 16) 1 0 16 16 (zeros 4 ++ counting 1 4 ++ zeros 2)) []) 5 508
    ∷ checked (one_channel (cn_block (zeros 16) 1 0 16 16 (zeros 8 ++ (1 ∷ 0 ∷ []))) []) 9 472
    ∷ checked (one_channel (cn_block (zeros 16) 1 9 0 16 (zeros 8 ++ (9 ∷ 9 ∷ []))) []) 0 0
    ∷ checked (one_group 2 2 (signal 0 16 0) (1 ∷ 2 ∷ 3 ∷ [])) 11 516
    ∷ checked (two_groups 1 (1 ∷ 0xAA ∷ 0xBB ∷ 3 ∷ 0xCC ∷ [])) 11 547
    ∷ checked (two_groups 1 (1 ∷ 0xAA ∷ 0xBB ∷ 2 ∷ 0xCC ∷ 2 ∷ 0xDD ∷ 0xEE ∷ [])) 11 549
    ∷ checked (two_groups 1 (1 ∷ 0xAA ∷ 0xBB ∷ 2 ∷ 0xCC ∷ 1 ∷ 0xDD ∷ [])) 11 549
    ∷ checked (two_groups 1 (1 ∷ 0xAA ∷ 0xBB ∷ 2 ∷ 0xCC ∷ [])) 11 549
    ∷ checked (two_groups 2 (1 ∷ 0xAA ∷ 0xBB ∷ 1 ∷ 2 ∷ 0xCC ∷ 2 ∷ 1 ∷ 0xDD ∷ 0xEE ∷ 2 ∷ [])) 11 551
    ∷ checked (two_groups 2 (1 ∷ 0xAA ∷ 0xBB ∷ 1 ∷ 2 ∷ 0xCC ∷ 2 ∷ 1 ∷ 0xDD ∷ 0xEE ∷ [])) 11 551
    ∷ []

unfoldable pub others : List Example
others =
    copies everything (room 602) (record { given = success 601; memory = everything_copy ++ room 1 })
    ∷ copies everything_copy (room 601) (record { given = success 601; memory = everything_copy })
    ∷ copies short_later (room 272) (record { given = success 272; memory = short_later_copy })
    ∷ copies long_header (room 228) (record { given = success 228; memory = plain300 })
    ∷ copies id300 (room 1) (record { given = refusal 5 64; memory = room 1 })
    ∷ asked (one_record 2 0 16 0 (1 ∷ 2 ∷ [])) 0 0 0 0 0
    ∷ asked (one_record 2 0 16 0 (1 ∷ 2 ∷ [])) 1 0 0 14 0
    ∷ asked (one_record 2 0 16 0 (1 ∷ 2 ∷ [])) 0 1 0 14 0
    ∷ asked (one_record 2 0 16 0 (1 ∷ 2 ∷ [])) 0 0 1 14 0
    ∷ asked (one_record 2 0 0 0 (1 ∷ 2 ∷ [])) 0 0 1 14 0
    ∷ asked (one_record 2 0 0 0 (1 ∷ 2 ∷ [])) 0 0 0 15 476
    ∷ asked (one_record 4 0 32 4 (1 ∷ 2 ∷ 3 ∷ 4 ∷ [])) 0 0 0 15 476
    ∷ asked (one_record 4 0 31 2 (1 ∷ 2 ∷ 3 ∷ 4 ∷ [])) 0 0 0 15 476
    ∷ asked (one_record 5 1 32 2 (1 ∷ 2 ∷ 3 ∷ 4 ∷ 5 ∷ [])) 0 0 0 15 476
    ∷ asked (one_record 4 0 32 3 (1 ∷ 2 ∷ 3 ∷ 4 ∷ [])) 0 0 0 15 476
    ∷ asked (one_record 2 0 12 7 (1 ∷ 2 ∷ [])) 0 0 0 15 476
    ∷ asked (one_record 2 1 8 8 (1 ∷ 2 ∷ [])) 0 0 0 15 476
    ∷ sampled mode2 (success (natural 0xBBAA))
    ∷ sampled (one_record 2 4 8 13 (0x34 ∷ 0x12 ∷ [])) (success (natural 0x23))
    ∷ sampled (one_record 2 4 8 14 (0x34 ∷ 0x18 ∷ [])) (success (integer (negsuc 0x7C)))
    ∷ sampled (one_record 2 4 8 10 (0x38 ∷ 0x12 ∷ [])) (success (integer (negsuc 0x7E)))
    ∷ sampled (one_group 2 1 (cn_block (zeros 16) 0 0 8 0 (zeros 8 ++ (1 ∷ 0 ∷ []))) (5 ∷ 6 ∷ [])) (success (natural 6))
    ∷ sampled (one_record 4 0 32 2 (0 ∷ 0 ∷ 0xC0 ∷ 0x3F ∷ [])) (success (float32 (fin false 3 (negsuc 0))))
    ∷ sampled (one_record 4 0 32 11 (0xBF ∷ 0xC0 ∷ 0 ∷ 0 ∷ [])) (success (float32 (fin true 3 (negsuc 0))))
    ∷ sampled (one_record 4 0 32 15 (0 ∷ 0 ∷ 0xC0 ∷ 0x7F ∷ [])) (success (float32 nan))
    ∷ sampled (one_record 8 0 64 3 f64_forty) (success (float64 (fin false 5 (pos 3))))
    ∷ sampled (one_record 8 0 64 12 (0x40 ∷ 0x44 ∷ zeros 6)) (success (float64 (fin false 5 (pos 3))))
    ∷ sampled (one_record 8 0 64 16 f64_inf) (success (float64 (inf false)))
    ∷ sampled (one_record 3 8 16 7 (65 ∷ 66 ∷ 67 ∷ [])) (success (bytes_at 515 2))
    ∷ parted (one_record 3 8 16 7 (65 ∷ 66 ∷ 67 ∷ [])) (66 ∷ 67 ∷ [])
    ∷ parted (one_record 3 8 16 8 (65 ∷ 66 ∷ 67 ∷ [])) (66 ∷ 67 ∷ [])
    ∷ parted (one_record 3 8 16 0 (65 ∷ 66 ∷ 67 ∷ [])) []
    ∷ parted (one_record 3 9 8 7 (65 ∷ 66 ∷ 67 ∷ [])) []
    ∷ converts (one_record 1 0 8 0 (5 ∷ [])) (success (fin false 5 (pos 0)))
    ∷ converts (one_record 1 0 8 1 (0xFB ∷ [])) (success (fin true 5 (pos 0)))
    ∷ converts (one_record 8 0 64 3 f64_forty) (success (fin false 5 (pos 3)))
    ∷ converts (one_record 8 0 64 3 f64_inf) (refusal 16 0)
    ∷ converts (one_record 4 0 32 2 (0 ∷ 0 ∷ 0xC0 ∷ 0x3F ∷ [])) (refusal 16 0)
    ∷ converts (one_record 1 0 8 7 (5 ∷ [])) (refusal 16 0)
    ∷ converts (one_record 1 0 0 7 (5 ∷ [])) (refusal 15 476)
    ∷ converts (one_record 8 0 64 0 (bytes_of 8 9007199254740992)) (success (fin false 1 (pos 53)))
    ∷ converts (one_record 8 0 64 0 (bytes_of 8 9007199254740993)) (refusal 16 0)
    ∷ converts (one_record 8 0 64 1 (bytes_of 8 18437736874454810624)) (success (fin true 1 (pos 53)))
    ∷ converts (one_record 8 0 64 1 (bytes_of 8 18437736874454810623)) (refusal 16 0)
    ∷ converts (with_conversion 8 0 (5 ∷ []) (conversion 0 (bytes_of 2 2 ++ (f64_zero ++ f64_forty)))) (success (fin false 25 (pos 3)))
    ∷ converts (with_conversion 8 0 (5 ∷ []) (conversion 0 (bytes_of 2 2 ++ (f64_forty ++ f64_zero)))) (success (fin false 5 (pos 3)))
    ∷ converts (with_conversion 8 0 (5 ∷ []) (conversion 0 (bytes_of 2 2 ++ (f64_zero ++ zeros 7)))) (refusal 16 0)
    ∷ converts (with_conversion 8 0 (5 ∷ []) (conversion 0 (bytes_of 2 2 ++ (f64_inf ++ f64_forty)))) (refusal 16 0)
    ∷ converts (with_conversion 8 0 (0 ∷ []) (conversion 0 (bytes_of 2 2 ++ (f64_zero ++ f64_inf)))) (refusal 16 0)
    ∷ converts (with_conversion 8 0 (5 ∷ []) (conversion 0 (bytes_of 2 2 ++ (f64_zero ++ f64_most)))) (refusal 16 0)
    ∷ converts (with_conversion 8 0 (5 ∷ []) (conversion 65535 (zeros 2))) (success (fin false 5 (pos 0)))
    ∷ converts (with_conversion 8 0 (5 ∷ []) (conversion 1 (bytes_of 2 2 ++ (f64_zero ++ f64_forty)))) (refusal 16 0)
    ∷ prints [] (50 ∷ 32 ∷ 48 ∷ 10 ∷ [])
    ∷ prints plain300 plain300
    ∷ prints id300 (53 ∷ 32 ∷ 54 ∷ 52 ∷ 10 ∷ [])
    ∷ prints (zeros 32769) (49 ∷ 32 ∷ 48 ∷ 10 ∷ [])
    ∷ prints shared_text (49 ∷ 51 ∷ 32 ∷ 52 ∷ 48 ∷ 50 ∷ 56 ∷ 54 ∷ 10 ∷ [])
    ∷ []

-- a CN block with this next link
abbrev pub cn_next : ℕ → List ℕ
cn_next next = join ((67 ∷ 78 ∷ []) ∷ bytes_of 2 228 ∷ bytes_of 4 next ∷ zeros 16 ∷ bytes_of 2 0 ∷ counting 3 160 ∷ bytes_of 2 0 ∷ bytes_of 2 8 ∷ bytes_of 2 0 ∷ counting 5 26 ∷ zeros 10 ∷ [])

-- the first n bytes of a block, its size said to be n
abbrev pub cut : ℕ → List ℕ → List ℕ
cut n block = take 2 block ++ (bytes_of 2 n ++ take (n - 4) (drop 4 block))

-- two groups of size 1 that share a channel at 316, data at 544
abbrev pub grid : ℕ → ℕ → List ℕ
grid bits data_type = join (id300 ∷ hd_block 228 0 0 9 ∷ dg_block 0 256 0 544 7 1 ∷ cg_block 286 316 0 1 9 1 2 0 ∷ cg_block 0 316 0 2 9 1 2 0 ∷ signal 0 bits data_type ∷ (1 ∷ 65 ∷ 2 ∷ 66 ∷ 1 ∷ 67 ∷ 2 ∷ 68 ∷ []) ∷ [])

-- version 320 with HD of n bytes
abbrev pub hd320 : ℕ → List ℕ → List ℕ
hd320 n more = join (id_block mdf 0 0 320 ∷ (72 ∷ 68 ∷ []) ∷ bytes_of 2 n ∷ zeros 14 ∷ counting 100 146 ∷ more ∷ [])

abbrev pub f64_nan : List ℕ
f64_nan = bytes_of 8 0x7FF8000000000000

-- an image of 32,768 bytes that is its own copy
abbrev pub full_text : List ℕ
full_text = join (id300 ∷ hd_block 0 228 0 0 ∷ text (zeros 32536) ∷ [])

-- a copy of 32,769 bytes
abbrev pub over_text : List ℕ
over_text = join (id300 ∷ hd_block 228 291 286 1 ∷ dg_block 0 256 0 0 1 0 ∷ cg_block 0 0 291 0 0 0 0 0 ∷ small 80 82 (0 ∷ []) ∷ text (zeros 16235) ∷ [])

-- on either side of the boundaries
unfoldable pub edges : List Example
edges =
    checked (one_data_group (dg_block 0 256 0 286 1 2) (cg_block 0 0 0 0 0 1 1 0 ++ (0 ∷ 65 ∷ []))) 11 286
    ∷ copies (one_group 2 0 (signal 0 16 0) []) (room 514) (record { given = success 514; memory = join (id300 ∷ hd_block 228 0 0 1 ∷ dg_block 0 256 0 0 1 0 ∷ cg_block 0 286 0 0 1 2 0 0 ∷ signal 0 16 0 ∷ []) })
    ∷ checked (one_channel (cn_block (zeros 16) 0 0 9 0 (zeros 8 ++ (1 ∷ 0 ∷ []))) []) 9 472
    ∷ checked (one_channel (cn_next 1) []) 17 290
    ∷ checked (header (cut 163 (hd_block 0 0 0 0)) ++ zeros 1) 18 64
    ∷ checked (one_data_group (cut 23 (dg_block 0 0 0 0 0 0)) (zeros 9)) 18 68
    ∷ checked (one_data_group (cut 24 (dg_block 0 0 0 0 0 0)) []) 0 0
    ∷ checked (one_channel_group 0 (cut 25 (cg_block 0 0 0 0 0 0 0 0)) (zeros 9)) 18 236
    ∷ checked (of_version 330 (one_channel_group 0 (cut 26 (cg_block 0 0 0 0 0 0 0 1)) (1 ∷ 1 ∷ 1 ∷ 1 ∷ []))) 0 0
    ∷ checked (one_channel (cut 217 (signal 0 16 0)) (zeros 20)) 18 264
    ∷ checked (one_channel (cut 218 (signal 0 16 0)) (counting 1 20)) 0 0
    ∷ checked (one_channel (cn_block (links4 514 0 0 0) 0 0 16 0 (zeros 10)) (cut 45 (conversion 0 (zeros 2)) ++ zeros 4)) 18 294
    ∷ checked (one_channel (cn_block (links4 0 514 0 0) 0 0 16 0 (zeros 10)) (small 67 69 (0 ∷ []) ++ zeros 4)) 18 298
    ∷ checked (header (hd_block 0 228 0 0) ++ (84 ∷ 88 ∷ 3 ∷ 0 ∷ [])) 18 72
    ∷ checked (header (hd_block 0 0 228 0) ++ (80 ∷ 82 ∷ 3 ∷ 0 ∷ [])) 18 76
    ∷ checked (header (hd_block 0 228 0 0) ++ (84 ∷ 88 ∷ 5 ∷ 0 ∷ [])) 19 72
    ∷ copies (id_block mdf 0 0 319 ++ hd_block 0 0 0 0) (room 228) (record { given = success 228; memory = id_block mdf 0 0 319 ++ hd_block 0 0 0 0 })
    ∷ copies (hd320 176 (counting 1 12)) (room 272) (record { given = success 272; memory = hd320 208 (counting 1 12 ++ zeros 32) })
    ∷ copies (hd320 175 (counting 1 11)) (room 272) (record { given = success 272; memory = hd320 208 (counting 1 10 ++ zeros 34) })
    ∷ checked (one_data_group (dg_block 0 0 0 0 0 256) []) 8 250
    ∷ checked (id_block (85 ∷ 110 ∷ 70 ∷ 105 ∷ 110 ∷ 77 ∷ 70 ∷ 32 ∷ []) 1 1 0) 3 0
    ∷ checked (id_block (zeros 8) 1 1 0) 2 0
    ∷ checked (id_block mdf 1 0 300) 4 24
    ∷ checked (id_block mdf 0 256 300) 4 26
    ∷ checked (one_channel (cn_block (zeros 16) 256 0 16 0 (zeros 10)) []) 9 310
    ∷ checked (one_channel (cn_block (zeros 16) 0 0 16 256 (zeros 10)) []) 9 476
    ∷ checked (one_channel (cn_block (zeros 16) 0 256 8 0 (zeros 10)) []) 9 472
    ∷ checked (one_channel (cn_block (zeros 16) 0 0 256 0 (zeros 10)) []) 9 472
    ∷ checked (one_channel (cn_block (links4 514 0 0 0) 0 0 16 0 (zeros 10)) (conversion 268 (zeros 2))) 0 0
    ∷ checked (one_channel_group 2 (cg_block 0 0 0 256 0 0 0 0) []) 8 272
    ∷ sampled (one_record 2 0 8 9 (0x12 ∷ 0x34 ∷ [])) (success (natural 0x12))
    ∷ sampled (one_record 2 0 9 0 (0xFF ∷ 1 ∷ [])) (success (natural 0x1FF))
    ∷ asked (one_record 16 57 64 1 (zeros 16)) 0 0 0 15 476
    ∷ asked (one_record 9 1 64 3 (zeros 9)) 0 0 0 15 476
    ∷ asked (one_record 8 0 64 2 (zeros 8)) 0 0 0 15 476
    ∷ asked (one_record 9 0 72 3 (zeros 9)) 0 0 0 15 476
    ∷ asked (one_record 8 0 64 4 (zeros 8)) 0 0 0 15 476
    ∷ asked (one_record 8 0 32 5 (zeros 8)) 0 0 0 15 476
    ∷ asked (one_record 8 0 64 5 (zeros 8)) 0 0 0 15 476
    ∷ asked (one_record 8 0 32 6 (zeros 8)) 0 0 0 15 476
    ∷ asked (one_record 8 0 64 6 (zeros 8)) 0 0 0 15 476
    ∷ asked id300 0 0 0 5 64
    ∷ parted (one_record 8 0 64 1 (zeros 8)) []
    ∷ parted (one_record 4 0 32 2 (zeros 4)) []
    ∷ parted (one_record 8 0 64 3 (zeros 8)) []
    ∷ sampled (one_group 3 1 (cn_block (zeros 16) 0 8 8 7 (zeros 8 ++ (1 ∷ 0 ∷ []))) (65 ∷ 66 ∷ 67 ∷ [])) (success (bytes_at 516 1))
    ∷ converts (one_record 8 0 64 3 f64_nan) (refusal 16 0)
    ∷ converts (with_conversion 8 0 (5 ∷ []) (conversion 0 (bytes_of 2 2 ++ (f64_nan ++ f64_forty)))) (refusal 16 0)
    ∷ converts (one_record 8 0 64 0 (bytes_of 8 9007199254740991)) (success (fin false 9007199254740991 (pos 0)))
    ∷ converts (one_record 8 0 64 1 (bytes_of 8 9007199254740991)) (success (fin false 9007199254740991 (pos 0)))
    ∷ converts (one_record 8 0 64 1 (bytes_of 8 9007199254740993)) (refusal 16 0)
    ∷ converts (with_conversion 32 0 (bytes_of 4 134217729) (conversion 0 (bytes_of 2 2 ++ (bytes_of 8 0xC350000004000000 ++ bytes_of 8 0x41A0000002000000)))) (success (fin false 0 (pos 0)))
    ∷ converts (with_conversion 32 0 (bytes_of 4 134217729) (conversion 0 (bytes_of 2 2 ++ (f64_zero ++ bytes_of 8 0x41A0000002000000)))) (success (fin false 67108865 (pos 28)))
    ∷ converts (with_conversion 32 0 (bytes_of 4 134217729) (conversion 0 (bytes_of 2 2 ++ (bytes_of 8 0x3FF0000000000000 ++ bytes_of 8 0x3FF0000000000000)))) (success (fin false 67108865 (pos 1)))
    ∷ converts (with_conversion 8 0 (5 ∷ []) (conversion 65534 (bytes_of 2 2 ++ (f64_zero ++ f64_forty)))) (refusal 16 0)
    ∷ copies (one_group 1 0 (cn_next 518) (zeros 4 ++ cn_next 0)) (room 742) (record { given = success 742; memory = join (id300 ∷ hd_block 228 0 0 1 ∷ dg_block 0 256 0 0 1 0 ∷ cg_block 0 286 0 0 2 1 0 0 ∷ cn_next 514 ∷ cn_next 0 ∷ []) })
    ∷ recorded (join (id300 ∷ hd_block 228 0 0 3 ∷ dg_block 256 312 0 342 1 1 ∷ dg_block 284 0 0 1 0 2 ∷ dg_block 0 312 0 344 1 1 ∷ cg_block 0 0 0 7 0 1 1 0 ∷ (7 ∷ 65 ∷ 7 ∷ 66 ∷ []) ∷ [])) (((65 ∷ []) ∷ []) ∷ ((66 ∷ []) ∷ []) ∷ [])
    ∷ prints full_text full_text
    ∷ prints over_text (49 ∷ 51 ∷ 32 ∷ 51 ∷ 50 ∷ 55 ∷ 54 ∷ 57 ∷ 10 ∷ [])
    ∷ []

-- a block with more bytes behind its known fields
abbrev pub longer : List ℕ → List ℕ → List ℕ
longer block more = take 2 block ++ (bytes_of 2 (length block + length more) ++ (drop 4 block ++ more))

-- a CN block, its next link set to this
abbrev pub linked : ℕ → List ℕ → List ℕ
linked next cn = take 4 cn ++ (bytes_of 4 next ++ drop 8 cn)

-- one group, one channel, one record, and 0 in each of the three counts that are not read
abbrev pub uncounted : List ℕ
uncounted =
    join (id300 ∷ hd_block 228 0 0 0 ∷ dg_block 0 256 0 514 0 0 ∷ cg_block 0 286 0 0 0 1 1 0 ∷ signal 0 8 0 ∷ (65 ∷ []) ∷ [])

-- next, comment, long name, display name
abbrev pub named : ℕ → ℕ → ℕ → ℕ → List ℕ
named next comment long display =
    linked next (cn_block (links4 0 0 0 comment) 0 0 8 0 (join (bytes_of 4 long ∷ bytes_of 4 display ∷ bytes_of 2 0 ∷ [])))

-- two channels, the first of 8 bits with three texts, the second of 16 bits. In the image the second and the texts stand before the first, the texts the other way round
abbrev pub two_channels : List ℕ
two_channels =
    join
    (id300
    ∷ hd_block 228 0 0 1
    ∷ dg_block 0 256 0 0 1 0
    ∷ cg_block 0 532 0 0 1 2 0 0
    ∷ signal 0 16 0
    ∷ text (99 ∷ 99 ∷ 99 ∷ [])
    ∷ text (98 ∷ 98 ∷ [])
    ∷ text (97 ∷ [])
    ∷ named 286 527 521 514
    ∷ [])

abbrev pub two_channels_copy : List ℕ
two_channels_copy =
    join
    (id300
    ∷ hd_block 228 0 0 1
    ∷ dg_block 0 256 0 0 1 0
    ∷ cg_block 0 286 0 0 2 2 0 0
    ∷ named 532 514 519 525
    ∷ text (97 ∷ [])
    ∷ text (98 ∷ 98 ∷ [])
    ∷ text (99 ∷ 99 ∷ 99 ∷ [])
    ∷ signal 0 16 0
    ∷ [])

-- the 64-bit float -0.0
abbrev pub f64_minus_zero : List ℕ
f64_minus_zero = bytes_of 8 0x8000000000000000

-- two data groups with one channel group, and so one channel, in common
abbrev pub shared_group : List ℕ
shared_group =
    join (id300 ∷ hd_block 228 0 0 2 ∷ dg_block 256 284 0 0 1 0 ∷ dg_block 0 284 0 0 1 0 ∷ cg_block 0 314 0 0 1 1 0 0 ∷ signal 0 8 0 ∷ [])

-- a sample reduction link in the second CG, of the same data group (at 286) and of the next one (at 314)
abbrev pub second_reduction : ℕ → List ℕ
second_reduction link = one_data_group (dg_block 0 256 0 0 2 1) (cg_block 286 0 0 1 0 0 0 0 ++ cg_block 0 0 0 2 0 0 0 link)

abbrev pub next_reduction : ℕ → List ℕ
next_reduction link =
    one_data_group (dg_block 286 256 0 0 1 0) (join (cg_block 0 0 0 0 0 0 0 0 ∷ dg_block 0 314 0 0 1 2 ∷ cg_block 0 0 0 0 0 0 0 link ∷ []))

-- rows for single clauses, each named by its section of docs/RULES.md
unfoldable pub clauses : List Example
clauses =
    -- 2.3: what a block has beyond its known fields is passed over
    checked (one_data_group (longer (dg_block 0 0 0 0 0 0) (1 ∷ 1 ∷ [])) []) 0 0
    ∷ checked (of_version 330 (one_channel_group 0 (longer (cg_block 0 0 0 0 0 0 0 0) (1 ∷ 1 ∷ [])) [])) 0 0
    ∷ checked (one_channel (longer (signal 0 16 0) (1 ∷ 1 ∷ [])) []) 0 0
    ∷ copies (hd320 210 (counting 1 46)) (room 272) (record { given = success 272; memory = hd320 208 (counting 1 44) })
    -- 2.3: a field that the size does not hold whole is taken as zeros. HD 164 and 176
    ∷ copies (hd320 171 (counting 1 7)) (room 272) (record { given = success 272; memory = hd320 208 (zeros 44) })
    ∷ copies (hd320 207 (counting 1 43)) (room 272) (record { given = success 272; memory = hd320 208 (counting 1 12 ++ zeros 32) })
    -- 2.3: the same of CN 218, 222 and 226, long name, display name and added byte offset
    ∷ checked (one_channel (cut 221 (cn_block (zeros 16) 0 0 16 0 (bytes_of 4 1 ++ zeros 6))) (zeros 20)) 0 0
    ∷ checked (one_channel (cut 222 (cn_block (zeros 16) 0 0 16 0 (bytes_of 4 1 ++ zeros 6))) (zeros 20)) 17 504
    ∷ checked (one_channel (cut 225 (cn_block (zeros 16) 0 0 16 0 (zeros 4 ++ bytes_of 4 1 ++ zeros 2))) (zeros 20)) 0 0
    ∷ checked (one_channel (cut 226 (cn_block (zeros 16) 0 0 16 0 (zeros 4 ++ bytes_of 4 1 ++ zeros 2))) (zeros 20)) 17 508
    ∷ checked (one_channel (cut 227 (cn_block (zeros 16) 0 0 16 0 (zeros 8 ++ bytes_of 2 1))) (zeros 20)) 0 0
    -- 2.5: the counts are never read, and written right
    ∷ copies uncounted (room 515) (record { given = success 515; memory = one_record 1 0 8 0 (65 ∷ []) })
    -- 2.5: below version 330 the sample reduction link is nil, whatever stands there and whatever the size. CG of 30, 29 and 32 bytes
    ∷ checked (one_channel_group 0 (cg_block 0 0 0 0 0 0 0 4294967295) []) 0 0
    ∷ checked (of_version 329 (one_channel_group 0 (cg_block 0 0 0 0 0 0 0 1) [])) 0 0
    ∷ checked (of_version 329 (one_channel_group 0 (cg_block 0 0 0 0 0 0 0 4294967295) [])) 0 0
    ∷ checked (of_version 329 (one_channel_group 0 (cut 29 (cg_block 0 0 0 0 0 0 0 4294967295)) (1 ∷ []))) 0 0
    ∷ checked (of_version 329 (one_channel_group 0 (longer (cg_block 0 0 0 0 0 0 0 4294967295) (1 ∷ 1 ∷ [])) [])) 0 0
    -- 2.5: from version 330 on it counts as soon as the size holds it
    ∷ checked (of_version 330 (one_channel_group 0 (cg_block 0 0 0 0 0 0 0 1) [])) 6 282
    ∷ checked (of_version 330 (one_channel_group 0 (cut 29 (cg_block 0 0 0 0 0 0 0 4294967295)) (1 ∷ []))) 0 0
    ∷ checked (of_version 330 (one_channel_group 0 (longer (cg_block 0 0 0 0 0 0 0 4294967295) (1 ∷ 1 ∷ [])) [])) 6 282
    ∷ checked (of_version 399 (one_channel_group 0 (cg_block 0 0 0 0 0 0 0 4294967295) [])) 6 282
    -- 2.5: both in every group and every mode
    ∷ checked (of_version 329 (second_reduction 65536)) 0 0
    ∷ checked (of_version 330 (second_reduction 65536)) 6 312
    ∷ checked (of_version 329 (next_reduction 256)) 0 0
    ∷ checked (of_version 330 (next_reduction 256)) 6 340
    -- 2.5, 4.2: a link that does not count is passed over, to the test behind it, and in the copy it is nil
    ∷ checked (of_version 329 (one_channel_group 1 (cg_block 1 1 1 256 0 0 1 1) [])) 8 272
    ∷ copies (one_channel_group 0 (cg_block 0 0 0 0 0 1 1 4294967295) (zeros 228 ++ (65 ∷ []))) (room 287) (record { given = success 287; memory = join (id300 ∷ hd_block 228 0 0 1 ∷ dg_block 0 256 0 286 1 0 ∷ cg_block 0 0 0 0 0 1 1 0 ∷ (65 ∷ []) ∷ []) })
    -- 3.2, 3.3, 4.1: channels in link order, each with its own comment, long name and display name
    ∷ copies two_channels (room 760) (record { given = success 760; memory = two_channels_copy })
    -- 3.6, 4.2: in mode 0 the record ID counts for nothing, and 0 is written
    ∷ copies (one_channel_group 0 (cg_block 0 0 0 5 0 1 1 0) (zeros 228 ++ (65 ∷ []))) (room 287) (record { given = success 287; memory = join (id300 ∷ hd_block 228 0 0 1 ∷ dg_block 0 256 0 286 1 0 ∷ cg_block 0 0 0 0 0 1 1 0 ∷ (65 ∷ []) ∷ []) })
    -- 5.1, number 6: a trigger, sample reduction or CD link that is not nil, whichever of its bytes is not 0
    ∷ checked (one_data_group (dg_block 0 0 65536 0 0 0) []) 6 240
    ∷ checked (of_version 330 (one_channel_group 0 (cg_block 0 0 0 0 0 0 0 65536) [])) 6 282
    ∷ checked (one_channel (cn_block (links4 0 0 65536 0) 0 0 16 0 (zeros 10)) []) 6 302
    -- 5.1, number 8: the ID of any earlier group of the data group, here 7, 8 and 7
    ∷ checked (one_data_group (dg_block 0 256 0 0 3 1) (join (cg_block 286 0 0 7 0 0 0 0 ∷ cg_block 316 0 0 8 0 0 0 0 ∷ cg_block 0 0 0 7 0 0 0 0 ∷ []))) 8 332
    -- 5.1, number 9: the added byte offset is a number of two bytes, here 256
    ∷ checked (one_channel (cn_block (zeros 16) 0 0 8 0 (zeros 8 ++ bytes_of 2 256)) []) 9 472
    -- 6.5: without CC, or with formula 65535, the number itself; the limit of 9,007,199,254,740,992 is one of integers alone
    ∷ converts (one_record 8 0 64 3 f64_minus_zero) (success (fin true 0 (pos 0)))
    ∷ converts (with_conversion 64 3 f64_minus_zero (conversion 65535 (zeros 2))) (success (fin true 0 (pos 0)))
    ∷ converts (one_record 8 0 64 3 f64_most) (success (fin false 9007199254740991 (pos 971)))
    ∷ []

-- ---- the four faults of a block

-- a block of this identifier and least size, what stands behind its head being zeros; the image that ends with it, and the field of the link that leads there
-- Each fault is told before those behind it: 5 where a part of the head stands there, 17 where the size is wrong too, 18 where the end is beyond the image too.
abbrev pub faults : ℕ → ℕ → ℕ → (List ℕ → List ℕ) → ℕ → List Example
faults first second least image field =
    checked (image []) 5 field
    ∷ checked (image (0 ∷ 0 ∷ 0 ∷ [])) 5 field
    ∷ checked (image (first ∷ second ∷ 0 ∷ [])) 5 field
    ∷ checked (image (first ∷ 0 ∷ 3 ∷ 0 ∷ [])) 17 field
    ∷ checked (image (0 ∷ second ∷ 255 ∷ 255 ∷ [])) 17 field
    ∷ checked (image (first ∷ second ∷ 0 ∷ 0 ∷ [])) 18 field
    ∷ checked (image (first ∷ second ∷ 3 ∷ 0 ∷ [])) 18 field
    ∷ checked (image (first ∷ second ∷ bytes_of 2 (least - 1))) 18 field
    ∷ checked (image (first ∷ second ∷ (bytes_of 2 (least + 1) ++ zeros (least - 4)))) 19 field
    ∷ checked (image (first ∷ second ∷ (bytes_of 2 least ++ zeros (least - 4)))) 0 0
    ∷ []

-- a CC at 514, a CE at 560 and a TX at 566, each of its least size
abbrev pub bodies : List ℕ
bodies = join (conversion 0 (zeros 2) ∷ small 67 69 (zeros 2) ∷ text [] ∷ [])

-- HD, every link that leads to a block, and links behind other groups, channels and bodies
unfoldable pub openings : List Example
openings =
    faults 72 68 164 (λ bytes. id300 ++ bytes) 64
    ++ faults 68 71 24 (λ bytes. header (hd_block 228 0 0 0) ++ bytes) 68
    ++ faults 84 88 4 (λ bytes. header (hd_block 0 228 0 0) ++ bytes) 72
    ++ faults 80 82 4 (λ bytes. header (hd_block 0 0 228 0) ++ bytes) 76
    ++ faults 68 71 24 (λ bytes. one_data_group (dg_block 256 0 0 0 0 0) bytes) 232
    ++ faults 67 71 26 (λ bytes. one_data_group (dg_block 0 256 0 0 0 0) bytes) 236
    ++ faults 67 71 26 (λ bytes. one_channel_group 1 (cg_block 286 0 0 1 0 0 0 0) bytes) 260
    ++ faults 67 78 218 (λ bytes. one_channel_group 0 (cg_block 0 286 0 0 0 0 0 0) bytes) 264
    ++ faults 84 88 4 (λ bytes. one_channel_group 0 (cg_block 0 0 286 0 0 0 0 0) bytes) 268
    ++ faults 67 78 218 (λ bytes. one_channel (cn_next 514) bytes) 290
    ++ faults 67 67 46 (λ bytes. one_channel (cn_block (links4 514 0 0 0) 0 0 16 0 (zeros 10)) bytes) 294
    ++ faults 67 69 6 (λ bytes. one_channel (cn_block (links4 0 514 0 0) 0 0 16 0 (zeros 10)) bytes) 298
    ++ faults 84 88 4 (λ bytes. one_channel (cn_block (links4 0 0 0 514) 0 0 16 0 (zeros 10)) bytes) 306
    ++ faults 84 88 4 (λ bytes. one_channel (cn_block (zeros 16) 0 0 16 0 (bytes_of 4 514 ++ zeros 6)) bytes) 504
    ++ faults 84 88 4 (λ bytes. one_channel (cn_block (zeros 16) 0 0 16 0 (zeros 4 ++ bytes_of 4 514 ++ zeros 2)) bytes) 508
    -- behind other groups, channels and bodies
    ++ faults 84 88 4 (λ bytes. one_data_group (dg_block 0 256 0 0 0 1) (join (cg_block 286 0 0 1 0 0 0 0 ∷ cg_block 0 0 316 2 0 0 0 0 ∷ bytes ∷ []))) 298
    ++ faults 67 69 6 (λ bytes. one_channel (cn_block (links4 514 570 0 0) 0 0 16 0 (zeros 10)) (bodies ++ bytes)) 298
    ++ faults 84 88 4 (λ bytes. one_channel (cn_block (links4 514 560 0 570) 0 0 16 0 (zeros 10)) (bodies ++ bytes)) 306
    ++ faults 84 88 4 (λ bytes. one_channel (cn_block (links4 514 560 0 566) 0 0 16 0 (bytes_of 4 570 ++ zeros 6)) (bodies ++ bytes)) 504
    ++ faults 84 88 4 (λ bytes. one_channel (cn_block (links4 514 560 0 566) 0 0 16 0 (bytes_of 4 566 ++ bytes_of 4 570 ++ zeros 2)) (bodies ++ bytes)) 508
    ++ faults 67 78 218 (λ bytes. one_channel (linked 570 (cn_block (links4 514 560 0 566) 0 0 16 0 (bytes_of 4 566 ++ bytes_of 4 566 ++ zeros 2))) (bodies ++ bytes)) 290
    ++ faults 67 67 46 (λ bytes. one_channel (cn_next 514) (cn_block (links4 742 0 0 0) 0 0 16 0 (zeros 10) ++ bytes)) 522
    ++ faults 67 78 218 (λ bytes. one_channel (cn_next 514) (cn_next 742 ++ bytes)) 518
    ++ faults 67 67 46 (λ bytes. one_channel (cut 218 (cn_block (links4 514 0 0 0) 0 0 16 0 (zeros 10))) (zeros 10 ++ bytes)) 294
    ++ faults 67 78 218 (λ bytes. one_channel_group 0 (cg_block 0 290 286 0 0 0 0 0) (text [] ++ bytes)) 264
    ++ faults 67 71 26 (λ bytes. one_data_group (dg_block 0 256 0 0 0 1) (join (cg_block 286 0 0 1 0 0 0 0 ∷ cg_block 544 316 0 2 0 1 0 0 ∷ signal 0 8 0 ∷ bytes ∷ []))) 290
    ++ faults 68 71 24 (λ bytes. one_data_group (dg_block 256 0 0 0 0 0) (join (dg_block 314 284 0 0 1 0 ∷ cg_block 0 0 0 0 0 0 0 0 ∷ bytes ∷ []))) 260
    ++ (checked (one_channel (cn_block (links4 514 1 0 0) 0 0 16 0 (zeros 10)) (67 ∷ 67 ∷ 255 ∷ 255 ∷ [])) 19 294 ∷ [])

-- ---- two files compared

-- the bytes of an entry: kind, group, item, byte place
abbrev pub written : ℕ → ℕ → ℕ → ℕ → List ℕ
written kind group item byte = join (bytes_of 2 kind ∷ zeros 2 ∷ bytes_of 4 group ∷ bytes_of 4 item ∷ bytes_of 4 byte ∷ [])

-- one group of records of this size, with one channel of 8 bits
abbrev pub rows_of : ℕ → ℕ → List ℕ → List ℕ
rows_of size count bytes = one_group size count (signal 0 8 0) bytes

abbrev pub one : List ℕ
one = 1 ∷ []

abbrev pub two : List ℕ
two = 2 ∷ []

-- main and added fields, conversion, extension, comment, long name, display name
abbrev pub channel_of : List ℕ → List ℕ → Body → Body → Body → Body → Body → Channel
channel_of main added conversion extension comment long_name display_name =
    record {
      fields = record { main = main; added = added };
      conversion = conversion;
      extension = extension;
      comment = comment;
      long_name = long_name;
      display_name = display_name;
    }

abbrev pub plain_channel : Channel
plain_channel = channel_of one one none none none none none

-- record size, comment, channels, records
abbrev pub group_of : ℕ → Body → List Channel → List (List ℕ) → Group
group_of size comment channels records = record { record_size = size; comment = comment; channels = channels; records = records }

-- ID, HD fields, those from version 320 on, comment, program, groups
abbrev pub of_file : List ℕ → List ℕ → List ℕ → Body → Body → List Group → Reading
of_file ident plain later comment program groups = record { ident = ident; plain = plain; later = later; comment = comment; program = program; groups = groups }

abbrev pub of_groups : List Group → Reading
of_groups groups = of_file one one one none none groups

-- a group without channels and records, and one with one of each
abbrev pub bare : Group
bare = group_of 1 none [] []

abbrev pub full : Group
full = group_of 1 none (plain_channel ∷ []) (one ∷ [])

-- group 1 has these
abbrev pub of_channels : List Channel → Reading
of_channels channels = of_groups (bare ∷ group_of 1 none channels [] ∷ [])

abbrev pub of_records : List (List ℕ) → Reading
of_records records = of_groups (bare ∷ group_of 1 none [] records ∷ [])

-- each differs from the plain one in one part, but for the last
abbrev pub many_channels : List Channel
many_channels =
    channel_of two one none none none none none
    ∷ channel_of one two none none none none none
    ∷ channel_of one one (some []) none none none none
    ∷ channel_of one one none (some []) none none none
    ∷ channel_of one one none none (some []) none none
    ∷ channel_of one one none none none (some []) none
    ∷ channel_of one one none none none none (some [])
    ∷ plain_channel
    ∷ []

-- of calls, then of readings that are too small for a file
unfoldable pub comparisons : List Example
comparisons =
    compares plain300 plain300 [] (record { given = success 0; memory = [] })
    ∷ compares mode1 mode2 (room 3) (record { given = success 0; memory = room 3 })
    ∷ compares plain300 plain320 (room 40) (record { given = success 32; memory = written 1 0 0 0 ++ written 1 0 1 0 ++ room 8 })
    ∷ compares plain300 plain320 (room 31) (record { given = refusal 13 32; memory = room 31 })
    ∷ compares plain300 (header (hd_block 0 228 0 0) ++ text []) (room 16) (record { given = success 16; memory = written 1 0 2 0 })
    ∷ compares (header (hd_block 0 0 228 0) ++ small 80 82 []) plain300 (room 15) (record { given = refusal 13 16; memory = room 15 })
    ∷ compares plain300 (rows_of 1 1 (255 ∷ [])) (room 16) (record { given = success 16; memory = written 2 0 0 0 })
    ∷ compares (rows_of 2 2 (1 ∷ 2 ∷ 3 ∷ 4 ∷ [])) (rows_of 2 3 (1 ∷ 2 ∷ 3 ∷ 5 ∷ 6 ∷ 7 ∷ [])) (room 32) (record { given = success 32; memory = written 4 0 1 1 ++ written 5 0 2 0 })
    ∷ compares (rows_of 3 1 (1 ∷ 2 ∷ 3 ∷ [])) (rows_of 2 1 (1 ∷ 2 ∷ [])) (room 32) (record { given = success 32; memory = written 3 0 0 0 ++ written 4 0 0 2 })
    ∷ compares mode1 (two_groups 1 (1 ∷ 0xAA ∷ 0xBB ∷ 2 ∷ 0xCD ∷ 1 ∷ 0xDD ∷ 0xEF ∷ [])) (room 32) (record { given = success 32; memory = written 4 0 1 1 ++ written 4 1 0 0 })
    ∷ compares (rows_of 300 1 (zeros 300)) (rows_of 300 1 (zeros 299 ++ one)) (room 17) (record { given = success 16; memory = 4 ∷ 0 ∷ 0 ∷ 0 ∷ 0 ∷ 0 ∷ 0 ∷ 0 ∷ 0 ∷ 0 ∷ 0 ∷ 0 ∷ 43 ∷ 1 ∷ 0 ∷ 0 ∷ room 1 })
    ∷ compares id300 [] (room 1) (record { given = refusal 5 64; memory = room 1 })
    ∷ compares plain300 [] (room 1) (record { given = refusal 2 0; memory = room 1 })
    -- kind 1: each item by itself, and all four
    ∷ differ (of_file one one one none none []) (of_file two one one none none []) (entry 1 0 0 0 ∷ [])
    ∷ differ (of_file one one one none none []) (of_file one two one none none []) (entry 1 0 1 0 ∷ [])
    ∷ differ (of_file one one [] none none []) (of_file one one one none none []) (entry 1 0 1 0 ∷ [])
    ∷ differ (of_file one one one none none []) (of_file one one one (some []) none []) (entry 1 0 2 0 ∷ [])
    ∷ differ (of_file one one one none (some one) []) (of_file one one one none none []) (entry 1 0 3 0 ∷ [])
    ∷ differ (of_file one one one (some one) (some one) []) (of_file two two two (some two) (some two) []) (entry 1 0 0 0 ∷ entry 1 0 1 0 ∷ entry 1 0 2 0 ∷ entry 1 0 3 0 ∷ [])
    -- kind 2: groups of the first alone, and of the second alone
    ∷ differ (of_groups (bare ∷ full ∷ bare ∷ [])) (of_groups (bare ∷ [])) (entry 2 1 0 0 ∷ entry 2 2 0 0 ∷ [])
    ∷ differ (of_groups (bare ∷ [])) (of_groups (bare ∷ full ∷ bare ∷ [])) (entry 2 1 0 0 ∷ entry 2 2 0 0 ∷ [])
    -- kind 3, item 0: record size, and comment
    ∷ differ (of_groups (bare ∷ bare ∷ bare ∷ [])) (of_groups (group_of 2 none [] [] ∷ group_of 1 (some []) [] [] ∷ bare ∷ [])) (entry 3 0 0 0 ∷ entry 3 1 0 0 ∷ [])
    -- kind 3, item c + 1: channels that differ in one part each, and the last in none
    ∷ differ (of_channels (replicate 8 plain_channel)) (of_channels many_channels) (entry 3 1 1 0 ∷ entry 3 1 2 0 ∷ entry 3 1 3 0 ∷ entry 3 1 4 0 ∷ entry 3 1 5 0 ∷ entry 3 1 6 0 ∷ entry 3 1 7 0 ∷ [])
    -- and channels of one file alone
    ∷ differ (of_channels (replicate 3 plain_channel)) (of_channels (replicate 1 plain_channel)) (entry 3 1 2 0 ∷ entry 3 1 3 0 ∷ [])
    ∷ differ (of_channels (replicate 1 plain_channel)) (of_channels (replicate 3 plain_channel)) (entry 3 1 2 0 ∷ entry 3 1 3 0 ∷ [])
    -- kinds 4 and 5: equal, differing at byte 0, at byte 1 and behind it, one the beginning of the other, and in one file alone
    ∷ differ (of_records (one ∷ one ∷ (1 ∷ 2 ∷ 3 ∷ []) ∷ (1 ∷ 2 ∷ []) ∷ [])) (of_records (one ∷ two ∷ (1 ∷ 3 ∷ 4 ∷ []) ∷ (1 ∷ 2 ∷ 3 ∷ []) ∷ one ∷ one ∷ [])) (entry 4 1 1 0 ∷ entry 4 1 2 1 ∷ entry 4 1 3 2 ∷ entry 5 1 4 0 ∷ entry 5 1 5 0 ∷ [])
    ∷ differ (of_records (one ∷ one ∷ one ∷ [])) (of_records (one ∷ [])) (entry 5 1 1 0 ∷ entry 5 1 2 0 ∷ [])
    -- order: the file, group 0, group 1, and a group in one file alone
    ∷ differ (of_file one one one none (some one) (group_of 1 none (plain_channel ∷ []) (one ∷ one ∷ []) ∷ group_of 1 none [] (one ∷ []) ∷ bare ∷ [])) (of_file one two one none none (group_of 2 none [] (one ∷ two ∷ one ∷ []) ∷ group_of 1 none (plain_channel ∷ []) (two ∷ []) ∷ [])) (entry 1 0 1 0 ∷ entry 1 0 3 0 ∷ entry 3 0 0 0 ∷ entry 3 0 1 0 ∷ entry 4 0 1 0 ∷ entry 5 0 2 0 ∷ entry 3 1 1 0 ∷ entry 4 1 0 0 ∷ entry 2 2 0 0 ∷ [])
    ∷ []

abbrev pub OwnExamplesAgree : Type 0
OwnExamplesAgree = Agree checks × Agree others × Agree edges × Agree clauses × Agree openings × Agree comparisons

-- what the tables have no row for: samples of a later group and record, the function under the program, numbers as bytes, the limits of 7 at their end, the limit of 1 and 12
-- Where a file may have one channel, the second is refused also in a later group or data group.
abbrev pub SmallExamplesAgree : Type 0
SmallExamplesAgree =
    (sample_outcome (grid 8 7) 1 0 1 ≡ success (part 551 1))
    × (raw_outcome (grid 8 7) 1 0 1 ≡ success (bytes_at 551 1))
    × (part_outcome (grid 8 7) 1 0 1 ≡ 68 ∷ [])
    × (physical_outcome (grid 8 0) 1 0 1 ≡ success (fin false 17 (pos 2)))
    × (program_outcome plain300 (room 230) ≡ record { given = success 228; memory = plain300 ++ room 2 })
    × (program_outcome (zeros 32769) (room 3) ≡ record { given = refusal 1 0; memory = room 3 })
    × (decimal 2147483647 ≡ 50 ∷ 49 ∷ 52 ∷ 55 ∷ 52 ∷ 56 ∷ 51 ∷ 54 ∷ 52 ∷ 55 ∷ [])
    × (bytes_of 4 0x01020304 ≡ 4 ∷ 3 ∷ 2 ∷ 1 ∷ [])
    × (entry_bytes (record { kind = 0x0102; group = 0x03040506; item = 0x0708090A; byte = 0x0B0C0D0E }) ≡ 2 ∷ 1 ∷ 0 ∷ 0 ∷ 6 ∷ 5 ∷ 4 ∷ 3 ∷ 10 ∷ 9 ∷ 8 ∷ 7 ∷ 14 ∷ 13 ∷ 12 ∷ 11 ∷ [])
    × (group_list (image_of []) 0 9 0 (1 ∷ []) 260 (some 1) ≡ refused 7 260)
    × (channel_list (image_of []) 0 9 264 (some 1) ≡ refused 7 264)
    × (data_group_list (image_of (grid 8 0)) 1 2 1 68 (some 228) ≡ refused 7 294)
    × (data_group_list (image_of shared_group) 2 2 1 68 (some 228) ≡ refused 7 292)
    × (passed (data_group_list (image_of shared_group) 2 2 2 68 (some 228)) ≡ accepted tt)
    × (most ≡ 2147483647)

-- ---- readings that differ

-- both images are accepted, and their readings are not equal
abbrev pub ReadingsDiffer : List ℕ → List ℕ → Type 0
ReadingsDiffer a b = ((check_outcome a).number ≡ 0) × ((check_outcome b).number ≡ 0) × (reads a ≡ reads b → ⊥)

-- no comment, and one of no bytes
abbrev pub AbsentIsNotEmpty : Type 0
AbsentIsNotEmpty = ReadingsDiffer plain300 (header (hd_block 0 228 0 0) ++ text [])

-- two groups of one size: A, B and C logged as 1 1 2, and as 1 2 2
abbrev pub logged : ℕ → ℕ → List ℕ → List ℕ
logged first second bytes =
    one_data_group (dg_block 0 256 0 316 2 1) (join (cg_block 286 0 0 1 0 1 first 0 ∷ cg_block 0 0 0 2 0 1 second 0 ∷ bytes ∷ []))

abbrev pub MovedRecordIsSeen : Type 0
MovedRecordIsSeen = ReadingsDiffer (logged 2 1 (1 ∷ 65 ∷ 1 ∷ 66 ∷ 2 ∷ 67 ∷ [])) (logged 1 2 (1 ∷ 65 ∷ 2 ∷ 66 ∷ 2 ∷ 67 ∷ []))
