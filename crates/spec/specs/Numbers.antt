-- The numbers that a call can give, and that it gives no other; docs/RULES.md, 5.3. Proofs: proofs/Numbers.antt.
-- Assumes nothing.
use Rattle.std.specs.Prelude.{ℕ, ◌≡◌, true, List, [], ◌∷◌}
use Rattle.spec.specs.Bytes.{All}
use Rattle.spec.specs.Walk.{elem}
use Rattle.spec.specs.Call.{check_outcome, copy_outcome, compare_outcome, sample_outcome, raw_outcome, physical_outcome, program_outcome}

abbrev pub check_numbers : List ℕ
check_numbers = 0 ∷ 1 ∷ 2 ∷ 3 ∷ 4 ∷ 5 ∷ 6 ∷ 7 ∷ 8 ∷ 9 ∷ 10 ∷ 11 ∷ 17 ∷ 18 ∷ 19 ∷ []

-- copy, compare and the small program
abbrev pub copy_numbers : List ℕ
copy_numbers = 12 ∷ 13 ∷ check_numbers

abbrev pub sample_numbers : List ℕ
sample_numbers = 14 ∷ 15 ∷ check_numbers

abbrev pub physical_numbers : List ℕ
physical_numbers = 16 ∷ sample_numbers

abbrev pub CheckGivesNoOther : Type 0
CheckGivesNoOther = (a : List ℕ) → elem (check_outcome a).number check_numbers ≡ true

-- and it gives each of them
abbrev pub CheckGivesEach : Type 0
CheckGivesEach = All (λ n. (a : List ℕ) × ((check_outcome a).number ≡ n)) check_numbers

abbrev pub CopyGivesNoOther : Type 0
CopyGivesNoOther = (a out : List ℕ) → elem (copy_outcome a out).given.number copy_numbers ≡ true

abbrev pub CompareGivesNoOther : Type 0
CompareGivesNoOther = (a b out : List ℕ) → elem (compare_outcome a b out).given.number copy_numbers ≡ true

abbrev pub ProgramGivesNoOther : Type 0
ProgramGivesNoOther = (a out : List ℕ) → elem (program_outcome a out).given.number copy_numbers ≡ true

-- of the sample as it is stored, and of its raw value
abbrev pub SampleGivesNoOther : Type 0
SampleGivesNoOther =
    (a : List ℕ) (group channel row : ℕ)
    → (elem (sample_outcome a group channel row).number sample_numbers ≡ true) × (elem (raw_outcome a group channel row).number sample_numbers ≡ true)

abbrev pub PhysicalGivesNoOther : Type 0
PhysicalGivesNoOther = (a : List ℕ) (group channel row : ℕ) → elem (physical_outcome a group channel row).number physical_numbers ≡ true
