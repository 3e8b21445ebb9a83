-- What the C calls hand back: a number, and 32 bytes, four little-endian numbers of 64 bits.
-- docs/DECISIONS.md, 50. Assumes nothing.
use Rattle.std.specs.Prelude.{ℕ, List, ◌++◌, Float, Result, Ok, Err}
use Rattle.std.proofs.Math.Option.{Option, none, some}
use Rattle.std.specs.Float.{binary64}
use Rattle.std.specs.Float.Ieee.{to_bits}
use Rattle.refusal.specs.declared.Refusal.{Refusal}
use Rattle.refusal.specs.Refused.{number_of}
use Rattle.answers.specs.Readings.{bytes_of}
use Rattle.answers.specs.Outcomes.{Outcome, check_outcome, copy_outcome, compare_outcome}
use Rattle.answers.specs.Samples.{Stored, unsigned, signed, single, double, part, twos, sample_outcome, physical_outcome}

-- place, value, length, kind; what does not apply is 0
abbrev pub answer_bytes : ℕ → ℕ → ℕ → ℕ → List ℕ
answer_bytes place value size kind = bytes_of 8 place ++ bytes_of 8 value ++ bytes_of 8 size ++ bytes_of 8 kind

-- a result by its number, and by its value's bytes or its place
abbrev pub number_given : Result (List ℕ) Refusal → ℕ
number_given (Ok bytes) = 0
number_given (Err e) = number_of e.reason

abbrev pub answer_given : Result (List ℕ) Refusal → List ℕ
answer_given (Ok bytes) = bytes
answer_given (Err e) = answer_bytes e.place 0 0 0

-- check gives a place and nothing else
unfoldable pub check_number : List ℕ → ℕ
check_number image = (check_outcome image).number

unfoldable pub check_answer : List ℕ → List ℕ
check_answer image = answer_bytes (check_outcome image).place 0 0 0

-- copy gives a place, or the length of the copy as its value
abbrev pub or_zero : Option ℕ → ℕ
or_zero none = 0
or_zero (some n) = n

abbrev pub length_answer : Outcome ℕ → List ℕ
length_answer o = answer_bytes o.place (or_zero o.value) 0 0

unfoldable pub copy_number : List ℕ → List ℕ → ℕ
copy_number image out = (copy_outcome image out).given.number

unfoldable pub copy_answer : List ℕ → List ℕ → List ℕ
copy_answer image out = length_answer (copy_outcome image out).given

-- compare gives a place, or the length of the list
unfoldable pub compare_number : List ℕ → List ℕ → List ℕ → ℕ
compare_number first second out = (compare_outcome first second out).given.number

unfoldable pub compare_answer : List ℕ → List ℕ → List ℕ → List ℕ
compare_answer first second out = length_answer (compare_outcome first second out).given

-- sample gives a place, or the sample: its kind; as value its bits, a signed number's in 64; of text and bytes the place in the image, and the length
abbrev pub kind_of : Stored → ℕ
kind_of (unsigned n) = 1
kind_of (signed bits n) = 2
kind_of (single n) = 3
kind_of (double n) = 4
kind_of (part place size) = 5

abbrev pub value_of : Stored → ℕ
value_of (unsigned n) = n
value_of (signed bits n) = twos bits n
value_of (single n) = n
value_of (double n) = n
value_of (part place size) = place

abbrev pub length_of : Stored → ℕ
length_of (unsigned n) = 0
length_of (signed bits n) = 0
length_of (single n) = 0
length_of (double n) = 0
length_of (part place size) = size

unfoldable pub stored_bytes : Stored → List ℕ
stored_bytes s = answer_bytes 0 (value_of s) (length_of s) (kind_of s)

abbrev pub value_or : {A : Type 0} → (A → List ℕ) → List ℕ → Option A → List ℕ
value_or bytes other none = other
value_or bytes other (some a) = bytes a

-- the bytes of a value, or a refusal's place alone
abbrev pub answered : {A : Type 0} → (A → List ℕ) → Outcome A → List ℕ
answered bytes o = value_or bytes (answer_bytes o.place 0 0 0) o.value

unfoldable pub sample_number : List ℕ → ℕ → ℕ → ℕ → ℕ
sample_number image group channel row = (sample_outcome image group channel row).number

unfoldable pub sample_answer : List ℕ → ℕ → ℕ → ℕ → List ℕ
sample_answer image group channel row = answered stored_bytes (sample_outcome image group channel row)

-- physical gives a place, or the bits of a 64-bit float as its value
unfoldable pub physical_bytes : Float → List ℕ
physical_bytes x = answer_bytes 0 (to_bits binary64 x) 0 4

unfoldable pub physical_number : List ℕ → ℕ → ℕ → ℕ → ℕ
physical_number image group channel row = (physical_outcome image group channel row).number

unfoldable pub physical_answer : List ℕ → ℕ → ℕ → ℕ → List ℕ
physical_answer image group channel row = answered physical_bytes (physical_outcome image group channel row)
