-- Worked examples: the 32 bytes of an answer for C, by what a call gives. docs/DECISIONS.md, 50; include/mdf3.h.
-- Not by images: here the walk over an image can't be computed (docs/DECISIONS.md, 53). The examples of `spec` have images.
-- Assumes nothing.
use Rattle.std.specs.Prelude.{ℕ, ◌≡◌, false, List, [], ◌∷◌, ◌++◌, replicate, pos}
use Rattle.std.proofs.Math.Option.{none, some}
use Rattle.std.specs.Float.{fin}
use Rattle.answers.specs.Readings.{join}
use Rattle.answers.specs.Outcomes.{check_outcome, compare_outcome}
use Rattle.answers.specs.Samples.{unsigned, signed, single, double, part}
use Rattle.mdf3.specs.Answers.{answer_bytes, check_answer, length_answer, compare_number, compare_answer, stored_bytes, answered, physical_bytes}

-- eight bytes that begin with these two, and go on with zeros
abbrev pub word : ℕ → ℕ → List ℕ
word low next = low ∷ next ∷ replicate 6 0

abbrev pub zeros8 : List ℕ
zeros8 = word 0 0

-- place, value, length, kind
abbrev pub answer : List ℕ → List ℕ → List ℕ → List ℕ → List ℕ
answer place value size kind = join (place ∷ value ∷ size ∷ kind ∷ [])

-- the bits of 40.0, lowest byte first
abbrev pub forty : List ℕ
forty = replicate 6 0 ++ (0x44 ∷ 0x40 ∷ [])

abbrev pub AnswerExamplesAgree : Type 0
AnswerExamplesAgree =
    -- the four numbers in their order, each with its lowest byte first
    (answer_bytes 0x0102 0x0304 0x0506 0x0708 ≡ answer (word 2 1) (word 4 3) (word 6 5) (word 8 7))
    -- check: the place 64
    × ((image : List ℕ) → (check_outcome image).place ≡ 64 → check_answer image ≡ answer (word 64 0) zeros8 zeros8 zeros8)
    -- copy: a length of 577 as value; refused with 13 it is the place
    × (length_answer (record { number = 0; place = 0; value = some 577 }) ≡ answer zeros8 (word 0x41 2) zeros8 zeros8)
    × (length_answer (record { number = 13; place = 577; value = none }) ≡ answer (word 0x41 2) zeros8 zeros8 zeros8)
    -- compare: a list of 32 bytes; an image refused with 4 at 28, and a list that finds no room
    × ((first second out : List ℕ) → (compare_outcome first second out).given ≡ record { number = 0; place = 0; value = some 32 } → (compare_number first second out ≡ 0) × (compare_answer first second out ≡ answer zeros8 (word 32 0) zeros8 zeros8))
    × ((first second out : List ℕ) → (compare_outcome first second out).given ≡ record { number = 4; place = 28; value = none } → (compare_number first second out ≡ 4) × (compare_answer first second out ≡ answer (word 28 0) zeros8 zeros8 zeros8))
    × ((first second out : List ℕ) → (compare_outcome first second out).given ≡ record { number = 13; place = 288; value = none } → (compare_number first second out ≡ 13) × (compare_answer first second out ≡ answer (word 32 1) zeros8 zeros8 zeros8))
    -- samples, kinds 1 to 5: unsigned 513, signed -8 in 4 bits, 1.5 in 32 bits, 40.0 in 64 bits, two bytes from 515 on
    × (stored_bytes (unsigned 513) ≡ answer zeros8 (word 1 2) zeros8 (word 1 0))
    × (stored_bytes (signed 4 0b1000) ≡ answer zeros8 (0xF8 ∷ replicate 7 0xFF) zeros8 (word 2 0))
    × (stored_bytes (single 0x3FC00000) ≡ answer zeros8 (0 ∷ 0 ∷ 0xC0 ∷ 0x3F ∷ replicate 4 0) zeros8 (word 3 0))
    × (stored_bytes (double 0x4044000000000000) ≡ answer zeros8 forty zeros8 (word 4 0))
    × (stored_bytes (part 515 2) ≡ answer zeros8 (word 3 2) (word 2 0) (word 5 0))
    -- a refused sample: the place 476 alone
    × (answered stored_bytes (record { number = 15; place = 476; value = none }) ≡ answer (word 0xDC 1) zeros8 zeros8 zeros8)
    -- a physical value: 40.0
    × (physical_bytes (fin false 5 (pos 3)) ≡ answer zeros8 forty zeros8 (word 4 0))
