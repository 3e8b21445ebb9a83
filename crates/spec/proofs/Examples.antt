-- The worked examples agree with the definitions, by computation.
-- Assumes nothing.
use Prim.Native.Nat.{ℕ, ◌<◌}
use mathlib.Core.Path.{◌≡◌, refl, ap}
use mathlib.Core.List.{List, [], ◌∷◌, ◌++◌}
use mathlib.Core.Option.{none, some}
use native.Mathlib.Omega.{arith}
use lib.ListN.{length, replicate, length-replicate}
use lib.Ieee.{of_bits, of_int, add, mul}
use Rattle.spec.specs.Bytes.{field}
use Rattle.spec.specs.Answer.{Answer, refused, accepted, ◌>>=◌, require, present}
use Rattle.spec.specs.Block.{opening, open_block, body_at, read_hd, write_hd, read_dg, write_dg, read_cg, write_cg, read_cn, write_cn}
use Rattle.spec.specs.Reading.{Group, Reading}
use Rattle.spec.specs.Records.{in_order, by_id, log_from, log_of}
use Rattle.spec.specs.Found.{reading_of}
use Rattle.spec.specs.Walk.{fields_pass, formula_passes, conversion_at, channel_at, channel_list, group_list, data_group_list, file_from, ident_passes, walk, reads}
use Rattle.spec.specs.Canonical.{channel_length, copy_length, channel_bytes, channels_bytes, group_bytes, groups_bytes, canonical_copy}
use Rattle.spec.specs.Differences.{same_channel, same_own, same_header, alone, file_entries, channel_entries, record_entries, group_entries, groups_alone, groups_entries, differences, list_length, list_bytes}
use Rattle.spec.specs.Sample.{pattern, stored_as, stored_sample, signed_of, raw_value, part_of, number_of, linear, converted, physical_value}
use Rattle.spec.specs.Call.{check_outcome, copying, copy_outcome, comparing, compare_outcome, asking, sampling, sample_outcome, raw_outcome, part_outcome, physical_outcome, programming, program_outcome, program_output}
use Rattle.spec.specs.Numbers.{CheckGivesEach}
use Rattle.spec.proofs.Facts.{long_image_is_refused}
use Rattle.spec.specs.Example.{mdf, id_block, dg_block, cg_block, signal, zeros, id300, plain300, one_data_group, one_channel_group, one_channel, Agree, marked, MarkedExamplesAgree, checks, others, edges, clauses, openings, comparisons, OwnExamplesAgree, SmallExamplesAgree, AbsentIsNotEmpty, MovedRecordIsSeen}

pub marked_examples_agree : MarkedExamplesAgree
unfolding marked field ◌>>=◌ require present opening open_block body_at read_hd write_hd read_dg write_dg read_cg write_cg read_cn write_cn in_order by_id log_from log_of reading_of fields_pass formula_passes conversion_at channel_at channel_list group_list data_group_list file_from ident_passes walk reads channel_length copy_length channel_bytes channels_bytes group_bytes groups_bytes canonical_copy pattern stored_as stored_sample signed_of raw_value check_outcome copying copy_outcome asking sampling raw_outcome
marked_examples_agree = refl

own_checks : Agree checks
unfolding checks field ◌>>=◌ require present opening open_block body_at read_hd write_hd read_dg write_dg read_cg write_cg read_cn write_cn in_order by_id log_from log_of reading_of fields_pass formula_passes conversion_at channel_at channel_list group_list data_group_list file_from ident_passes walk reads channel_length copy_length channel_bytes channels_bytes group_bytes groups_bytes canonical_copy pattern stored_as stored_sample signed_of raw_value check_outcome copying copy_outcome asking sampling raw_outcome
own_checks = refl

own_others : Agree others
unfolding others field ◌>>=◌ require present opening open_block body_at read_hd write_hd read_dg write_dg read_cg write_cg read_cn write_cn in_order by_id log_from log_of reading_of fields_pass formula_passes conversion_at channel_at channel_list group_list data_group_list file_from ident_passes walk reads channel_length copy_length channel_bytes channels_bytes group_bytes groups_bytes canonical_copy pattern stored_as stored_sample signed_of raw_value check_outcome copying copy_outcome asking sampling raw_outcome part_of number_of linear converted physical_value part_outcome physical_outcome programming program_output of_bits of_int add mul
own_others = refl

own_edges : Agree edges
unfolding edges field ◌>>=◌ require present opening open_block body_at read_hd write_hd read_dg write_dg read_cg write_cg read_cn write_cn in_order by_id log_from log_of reading_of fields_pass formula_passes conversion_at channel_at channel_list group_list data_group_list file_from ident_passes walk reads channel_length copy_length channel_bytes channels_bytes group_bytes groups_bytes canonical_copy pattern stored_as stored_sample signed_of raw_value check_outcome copying copy_outcome asking sampling raw_outcome part_of number_of linear converted physical_value part_outcome physical_outcome programming program_output of_bits of_int add mul
own_edges = refl

own_clauses : Agree clauses
unfolding clauses field ◌>>=◌ require present opening open_block body_at read_hd write_hd read_dg write_dg read_cg write_cg read_cn write_cn in_order by_id log_from log_of reading_of fields_pass formula_passes conversion_at channel_at channel_list group_list data_group_list file_from ident_passes walk reads channel_length copy_length channel_bytes channels_bytes group_bytes groups_bytes canonical_copy pattern stored_as stored_sample signed_of raw_value check_outcome copying copy_outcome asking sampling raw_outcome part_of number_of linear converted physical_value part_outcome physical_outcome programming program_output of_bits of_int add mul
own_clauses = refl

own_openings : Agree openings
unfolding openings field ◌>>=◌ require opening open_block body_at read_hd read_dg read_cg read_cn in_order by_id log_from log_of reading_of fields_pass formula_passes conversion_at channel_at channel_list group_list data_group_list file_from ident_passes walk reads check_outcome
own_openings = refl

own_comparisons : Agree comparisons
unfolding comparisons same_channel same_own same_header alone file_entries channel_entries record_entries group_entries groups_alone groups_entries differences list_length list_bytes comparing compare_outcome field ◌>>=◌ require opening open_block body_at read_hd read_dg read_cg read_cn in_order by_id log_from log_of reading_of fields_pass formula_passes conversion_at channel_at channel_list group_list data_group_list file_from ident_passes walk reads
own_comparisons = refl

pub own_examples_agree : OwnExamplesAgree
own_examples_agree = (own_checks, own_others, own_edges, own_clauses, own_openings, own_comparisons)

pub small_examples_agree : SmallExamplesAgree
unfolding sample_outcome program_outcome field ◌>>=◌ require present opening open_block body_at read_hd write_hd read_dg write_dg read_cg write_cg read_cn write_cn in_order by_id log_from log_of reading_of fields_pass formula_passes conversion_at channel_at channel_list group_list data_group_list file_from ident_passes walk reads channel_length copy_length channel_bytes channels_bytes group_bytes groups_bytes canonical_copy pattern stored_as stored_sample signed_of raw_value check_outcome copying copy_outcome asking sampling raw_outcome part_of number_of linear converted physical_value part_outcome physical_outcome programming program_output of_bits of_int add mul
small_examples_agree = (refl, refl, refl, refl, refl, refl, refl, refl, refl, refl, refl, refl, refl, refl, refl)

-- ---- readings that differ

-- 1 where there is a comment, 0 where there is none
comment_seen : Answer Reading → ℕ
comment_seen (refused n p) = 2
comment_seen (accepted r) = elim r.comment [ none ↦ 0 | some bytes ↦ 1 ]

pub absent_is_not_empty : AbsentIsNotEmpty
unfolding comment_seen field ◌>>=◌ require opening open_block body_at read_hd reading_of data_group_list file_from ident_passes walk reads check_outcome
absent_is_not_empty = (refl, refl, λ e. let z : ◌≡◌ {A = ℕ} 0 1 = ap comment_seen e in absurd (omega arith))

-- how many records the first group has
first_records : List Group → ℕ
first_records [] = 0
first_records (g ∷ gs) = length g.records

records_seen : Answer Reading → ℕ
records_seen (refused n p) = 0
records_seen (accepted r) = first_records r.groups

pub moved_record_is_seen : MovedRecordIsSeen
unfolding records_seen first_records field ◌>>=◌ require opening open_block body_at read_hd read_dg read_cg by_id log_from log_of reading_of channel_list group_list data_group_list file_from ident_passes walk reads check_outcome
moved_record_is_seen = (refl, refl, λ e. let z : ◌≡◌ {A = ℕ} 2 1 = ap records_seen e in absurd (omega arith))

-- ---- each number of a check

abbrev Given : ℕ → Type 0
Given n = (a : List ℕ) × ((check_outcome a).number ≡ n)

too_long : (n : ℕ) → 2147483647 < n → (check_outcome (replicate n 0)).number ≡ 1
too_long n h = ap (λ o. o.number) (long_image_is_refused (replicate n 0) (rw length-replicate h))

each : (n : ℕ) {R : Type 0} (a : List ℕ) → (check_outcome a).number ≡ n → R → Given n × R
each n a e rest = ((a, e), rest)

pub check_gives_each : CheckGivesEach
unfolding field ◌>>=◌ require opening open_block body_at read_hd read_dg read_cg read_cn in_order log_from log_of fields_pass formula_passes conversion_at channel_at channel_list group_list data_group_list file_from ident_passes walk check_outcome
check_gives_each =
    each 0 plain300 refl
    (each 1 (replicate 2147483648 0) (too_long 2147483648 (omega arith))
    (each 2 [] refl
    (each 3 (id_block (85 ∷ 110 ∷ 70 ∷ 105 ∷ 110 ∷ 77 ∷ 70 ∷ 32 ∷ []) 0 0 300) refl
    (each 4 (id_block mdf 0 0 400) refl
    (each 5 id300 refl
    (each 6 (one_data_group (dg_block 0 0 1 0 0 0) []) refl
    (each 7 (one_data_group (dg_block 228 0 0 0 0 0) []) refl
    (each 8 (one_data_group (dg_block 0 0 0 0 0 3) []) refl
    (each 9 (one_channel (signal 0 17 0) []) refl
    (each 10 (one_channel_group 0 (cg_block 0 0 0 0 0 0 1 0) []) refl
    (each 11 (one_channel_group 0 (cg_block 0 0 0 0 0 1 1 0) []) refl
    (each 17 (id300 ++ zeros 4) refl
    (each 18 (id300 ++ (72 ∷ 68 ∷ 0 ∷ 0 ∷ [])) refl
    (each 19 (id300 ++ (72 ∷ 68 ∷ 164 ∷ 0 ∷ [])) refl tt))))))))))))))
