-- The proofs of specs/Numbers.antt: an answer whose refusals are all among some numbers, step by step.
-- Assumes nothing.
use Prim.Native.Nat.{ℕ, zero, suc, ◌+◌, ◌-◌}
use mathlib.Core.Path.{◌≡◌, refl, sym}
use mathlib.Core.Logic.{⊎_elim}
use mathlib.Core.Bool.{Bool, true, false, cond, ◌||◌, true≢false}
use mathlib.Core.List.{List, [], ◌∷◌}
use mathlib.Core.Option.{Option, none, some}
use lib.Dec.{ltb, eqb}
use lib.ListN.{length, get_or}
use lib.Ieee.{Float}
use borrow.Author.Tests.{eqb-true}
use Rattle.spec.specs.Answer.{Answer, refused, accepted, ◌>>=◌, require, present, map_answer, passed, at_place}
use Rattle.spec.specs.Block.{Kind, Image, Opened, opening, open_block, open_as, body_at, formula, Fields, CnBlock}
use Rattle.spec.specs.Reading.{Body, Reading}
use Rattle.spec.specs.Records.{Slot, Logged, records_due, times, size_due, in_order, by_id, log_from, log_of}
use Rattle.spec.specs.Found.{FoundBody}
use Rattle.spec.specs.Walk.{fields_pass, formula_passes, conversion_at, channel_at, channel_list, elem, group_list, data_group_list, file_from, ident_passes, walk, reads}
use Rattle.spec.specs.Sample.{Encoding, unsigned_integer, signed_integer, single_float, double_float, byte_run, unreadable, Order, Stored, unsigned, signed, single, double, part, raw_value, stored_as, stored_sample, number_of, linear, converted, physical_value}
use Rattle.spec.specs.Call.{outcome_of, check_outcome, copying, copied, copy_outcome, Pair, comparing, compared, compare_outcome, Asked, asking, stored_at, sampling, sample_outcome, raw_outcome, physical_outcome, programming, program_outcome}
use Rattle.spec.specs.Numbers.{check_numbers, copy_numbers, sample_numbers, physical_numbers, CheckGivesNoOther, CopyGivesNoOther, CompareGivesNoOther, ProgramGivesNoOther, SampleGivesNoOther, PhysicalGivesNoOther}
use Rattle.spec.proofs.Answers.{not_both}
use Rattle.spec.proofs.Opening.{no_other_fault}

-- ---- answers

-- every refusal has one of these numbers
pub record Among {A : Type 0} (ns : List ℕ) (m : Answer A) : Type 0 where
  pub each : (n p : ℕ) → m ≡ refused n p → elem n ns ≡ true

fine : {A : Type 0} {ns : List ℕ} (a : A) → Among ns (accepted a)
fine a = record { each = λ n p e. absurd (not_both refl e) }

no : {A : Type 0} {ns : List ℕ} (n p : ℕ) → elem n ns ≡ true → Among {A = A} ns (refused n p)
no n p h = record { each = λ n' p' e. let a : n' ≡ n = cc in rw a h }

then : {A B : Type 0} {ns : List ℕ} {m : Answer A} (f : A → Answer B) → Among ns m → ((a : A) → Among ns (f a)) → Among ns (m >>= f)
unfolding ◌>>=◌
then {m = refused n p} f h k = no n p (h.each n p refl)
then {m = accepted a} f h k = k a

test : {ns : List ℕ} (t : Bool) (n p : ℕ) → elem n ns ≡ true → Among ns (require t n p)
unfolding require
test true n p h = fine tt
test false n p h = no n p h

there : {A : Type 0} {ns : List ℕ} (x : Option A) (n p : ℕ) → elem n ns ≡ true → Among ns (present x n p)
unfolding present
there none n p h = no n p h
there (some a) n p h = fine a

choice : {A : Type 0} {ns : List ℕ} (t : Bool) {m m' : Answer A} → Among ns m → Among ns m' → Among ns (cond t m m')
choice true h h' = h
choice false h h' = h'

same : {A B : Type 0} {ns : List ℕ} (f : A → B) {m : Answer A} → Among ns m → Among ns (map_answer f m)
same f {m = refused n p} h = no n p (h.each n p refl)
same f {m = accepted a} h = fine (f a)

placed : {A : Type 0} {ns : List ℕ} (q : ℕ) {m : Answer A} → Among ns m → Among ns (at_place q m)
placed q {m = refused n p} h = no n q (h.each n p refl)
placed q {m = accepted a} h = fine a

more : {A : Type 0} {ns : List ℕ} (x : ℕ) {m : Answer A} → Among ns m → Among (x ∷ ns) m
more x h = record { each = λ n p e. go (eqb n x) (h.each n p e) }
  where
    go : (t : Bool) {u : Bool} → u ≡ true → t || u ≡ true
    go true e = refl
    go false e = e

-- ---- blocks

opening_among : (k : Kind) (image : Image) (p : ℕ) → Among check_numbers (opening k image p)
opening_among k image p =
    record { each = λ n q e. ⊎_elim (λ a. rw a refl) (⊎_elim (λ a. rw a refl) (⊎_elim (λ a. rw a refl) (λ a. rw a refl))) (no_other_fault k image p n q e).0 }

module _ (image : Image) where
  block : {A : Type 0} (k : Kind) (read : List ℕ → A) (link_field p : ℕ) → Among check_numbers (open_as k read image link_field p)
  unfolding open_block
  block k read link_field p = then _ (placed link_field (opening_among k image p)) λ _. fine _

  body : (k : Kind) (link_field : ℕ) (l : Option ℕ) → Among check_numbers (body_at k image link_field l)
  unfolding body_at
  body k link_field none = fine none
  body k link_field (some p) = then _ (block k _ link_field p) λ _. fine _

  -- ---- channels

  fields_among : (size p : ℕ) (f : Fields) → Among check_numbers (fields_pass size p f)
  unfolding fields_pass
  fields_among size p f = then _ (test _ _ _ refl) λ _. then _ (test _ _ _ refl) λ _. test _ _ _ refl

  formula_among : (cc : FoundBody) → Among check_numbers (formula_passes cc)
  unfolding formula_passes
  formula_among none = fine tt
  formula_among (some cc) = test _ _ _ refl

  channel_among : (size : ℕ) (cn : Opened CnBlock) → Among check_numbers (channel_at image size cn)
  unfolding channel_at conversion_at
  channel_among size cn =
      then _ (then _ (body _ _ _) λ cc. then _ (formula_among cc) λ _. fine _) λ _.
      then _ (body _ _ _) λ _.
      then _ (test _ _ _ refl) λ _.
      then _ (body _ _ _) λ _.
      then _ (fields_among _ _ _) λ _.
      then _ (body _ _ _) λ _.
      then _ (body _ _ _) λ _.
      fine _

  channels_among : (left size link_field : ℕ) (l : Option ℕ) → Among check_numbers (channel_list image left size link_field l)
  unfolding channel_list
  channels_among zero size link_field none = fine []
  channels_among zero size link_field (some p) = no 7 link_field refl
  channels_among (suc left) size link_field none = fine []
  channels_among (suc left) size link_field (some p) =
      then _ (block _ _ _ _) λ cn.
      then _ (channel_among _ _) λ _.
      then _ (channels_among left size (p + 4) cn.content.next) λ _.
      fine _

  -- ---- groups

  groups_among : (left cl mode : ℕ) (used : List ℕ) (link_field : ℕ) (l : Option ℕ) → Among check_numbers (group_list image left cl mode used link_field l)
  unfolding group_list
  groups_among zero cl mode used link_field none = fine []
  groups_among zero cl mode used link_field (some p) = no 7 link_field refl
  groups_among (suc left) cl mode used link_field none = fine []
  groups_among (suc left) cl mode used link_field (some p) =
      then _ (test _ _ _ refl) λ _.
      then _ (block _ _ _ _) λ cg.
      then _ (test _ _ _ refl) λ _.
      then _ (test _ _ _ refl) λ _.
      then _ (body _ _ _) λ _.
      then _ (test _ _ _ refl) λ _.
      then _ (channels_among _ _ _ _) λ channels.
      then _ (groups_among left (cl - length channels) mode (cg.content.record_id ∷ used) (p + 4) cg.content.next) λ _.
      fine _

-- ---- records: 11 alone

size_among : (p n k : ℕ) (slots : List Slot) → Among (11 ∷ []) (size_due p n k slots)
size_among p n k [] = no 11 p refl
size_among p n k (s ∷ ss) = choice (eqb s.record_id n) (choice (ltb k s.record_count) (fine _) (no 11 p refl)) (size_among p n k ss)

module _ (image : List ℕ) where
  in_order_among : (k size n p : ℕ) → Among (11 ∷ []) (in_order image k size n p)
  unfolding in_order
  in_order_among zero size n p = fine []
  in_order_among (suc k) size n p = then _ (test _ _ _ refl) λ _. then _ (in_order_among k size n (p + size)) λ _. fine _

  by_id_among : (k mode : ℕ) (slots : List Slot) (seen : List ℕ) (p : ℕ) → Among (11 ∷ []) (by_id image k mode slots seen p)
  unfolding by_id
  by_id_among zero mode slots seen p = fine []
  by_id_among (suc k) mode slots seen p =
      then _ (test _ _ _ refl) λ _.
      then _ (size_among p (get_or image p 0) (times (get_or image p 0) seen) slots) λ size.
      then _ (test _ _ _ refl) λ _.
      then _ (test _ _ _ refl) λ _.
      then _ (by_id_among k mode slots (get_or image p 0 ∷ seen) (p + size + mode)) λ _.
      fine _

  log_from_among : (mode : ℕ) (slots : List Slot) (p : ℕ) → Among (11 ∷ []) (log_from image mode slots p)
  unfolding log_from
  log_from_among zero [] p = fine []
  log_from_among zero (s ∷ ss) p = in_order_among _ _ _ p
  log_from_among (suc m) slots p = by_id_among _ _ _ _ p

  pub log_among : (mode : ℕ) (slots : List Slot) (link_field : ℕ) (l : Option ℕ) → Among (11 ∷ []) (log_of image mode slots link_field l)
  unfolding log_of
  log_among mode slots link_field none = then _ (test _ _ _ refl) λ _. fine []
  log_among mode slots link_field (some p) = choice (eqb (records_due slots) 0) (fine []) (log_from_among mode slots p)

pub only_11 : (n : ℕ) → elem n (11 ∷ []) ≡ true → n ≡ 11
only_11 n e = go (eqb n 11) refl e
  where
    go : (t : Bool) → eqb n 11 ≡ t → t || false ≡ true → n ≡ 11
    go true f e = eqb-true n 11 f
    go false f e = absurd (true≢false (sym e))

records_among : {A : Type 0} {m : Answer A} → Among (11 ∷ []) m → Among check_numbers m
records_among h = record { each = λ n p e. rw (only_11 n (h.each n p e)) refl }

-- ---- the file

module _ (image : Image) where
  data_groups_among : (left gl cl link_field : ℕ) (l : Option ℕ) → Among check_numbers (data_group_list image left gl cl link_field l)
  unfolding data_group_list
  data_groups_among zero gl cl link_field none = fine []
  data_groups_among zero gl cl link_field (some p) = no 7 link_field refl
  data_groups_among (suc left) gl cl link_field none = fine []
  data_groups_among (suc left) gl cl link_field (some p) =
      then _ (block image _ _ _ _) λ dg.
      then _ (test _ _ _ refl) λ _.
      then _ (test _ _ _ refl) λ _.
      then _ (groups_among image _ _ _ _ _ _) λ groups.
      then _ (records_among (log_among _ _ _ _ _)) λ _.
      then _ (data_groups_among left _ _ (p + 4) dg.content.next) λ _.
      fine _

  file_among : (ident : List ℕ) → Among check_numbers (file_from image ident)
  unfolding file_from
  file_among ident =
      then _ (block image _ _ _ _) λ _.
      then _ (body image _ _ _) λ _.
      then _ (body image _ _ _) λ _.
      then _ (data_groups_among _ _ _ _ _) λ _.
      fine _

ident_among : (ident : List ℕ) → Among check_numbers (ident_passes ident)
unfolding ident_passes
ident_among ident =
    then _ (test _ _ _ refl) λ _.
    then _ (test _ _ _ refl) λ _.
    then _ (test _ _ _ refl) λ _.
    then _ (test _ _ _ refl) λ _.
    test _ _ _ refl

walk_among : (a : List ℕ) → Among check_numbers (walk a)
unfolding walk
walk_among a =
    then _ (test _ _ _ refl) λ _.
    then _ (test _ _ _ refl) λ _.
    then _ (ident_among _) λ _.
    file_among _ _

-- ---- the calls

-- 0 is among them too
outcome_among : {A : Type 0} {ns : List ℕ} (m : Answer A) → elem 0 ns ≡ true → Among ns m → elem (outcome_of m).number ns ≡ true
outcome_among (refused n p) z h = h.each n p refl
outcome_among (accepted a) z h = z

pub check_gives_no_other : CheckGivesNoOther
unfolding check_outcome
check_gives_no_other a = outcome_among (passed (walk a)) refl (go (walk a) (walk_among a))
  where
    go : {A : Type 0} (m : Answer A) → Among check_numbers m → Among check_numbers (passed m)
    go (refused n p) h = no n p (h.each n p refl)
    go (accepted x) h = fine tt

reads_among : (a : List ℕ) → Among copy_numbers (reads a)
unfolding reads
reads_among a = more 12 (more 13 (same _ (walk_among a)))

copying_among : (a : List ℕ) (n : ℕ) → Among copy_numbers (copying a n)
unfolding copying
copying_among a n = then _ (reads_among a) λ _. then _ (test _ _ _ refl) λ _. then _ (test _ _ _ refl) λ _. fine _

-- what fills an output gives the number of its answer
copied_among : (m : Answer Reading) (out : List ℕ) → Among copy_numbers m → elem (copied m out).given.number copy_numbers ≡ true
copied_among (refused n p) out h = h.each n p refl
copied_among (accepted r) out h = refl

compared_among : (m : Answer Pair) (out : List ℕ) → Among copy_numbers m → elem (compared m out).given.number copy_numbers ≡ true
compared_among (refused n p) out h = h.each n p refl
compared_among (accepted x) out h = refl

pub copy_gives_no_other : CopyGivesNoOther
unfolding copy_outcome
copy_gives_no_other a out = copied_among _ out (copying_among a (length out))

pub compare_gives_no_other : CompareGivesNoOther
unfolding compare_outcome comparing
compare_gives_no_other a b out =
    compared_among (comparing a b (length out)) out
    (then _ (reads_among a) λ _. then _ (reads_among b) λ _. then _ (test _ _ _ refl) λ _. then _ (test _ _ _ refl) λ _. fine _)

pub program_gives_no_other : ProgramGivesNoOther
unfolding program_outcome programming
program_gives_no_other a out = copied_among _ out (then _ (test _ _ _ refl) λ _. copying_among a (length out))

stored_among : (e : Encoding) (order : Order) (f : Fields) (place : ℕ) (r : Logged) → Among sample_numbers (stored_as e order f place r)
unfolding stored_as
stored_among unsigned_integer order f place r = then _ (test _ _ _ refl) λ _. fine _
stored_among signed_integer order f place r = then _ (test _ _ _ refl) λ _. fine _
stored_among single_float order f place r = then _ (test _ _ _ refl) λ _. fine _
stored_among double_float order f place r = then _ (test _ _ _ refl) λ _. fine _
stored_among byte_run order f place r = then _ (test _ _ _ refl) λ _. fine _
stored_among unreadable order f place r = no 15 place refl

stored_at_among : (x : Asked) → Among sample_numbers (stored_at x)
unfolding stored_sample
stored_at_among x = then _ (test _ _ _ refl) λ _. stored_among _ _ _ _ _

asking_among : (a : List ℕ) (group channel row : ℕ) → Among sample_numbers (asking a group channel row)
unfolding asking
asking_among a group channel row =
    then _ (more 14 (more 15 (walk_among a))) λ _.
    then _ (there _ _ _ refl) λ _.
    then _ (there _ _ _ refl) λ _.
    then _ (there _ _ _ refl) λ _.
    fine _

pub sample_gives_no_other : SampleGivesNoOther
unfolding sample_outcome raw_outcome sampling
sample_gives_no_other a group channel row =
    let h : Among sample_numbers (sampling a group channel row) = then _ (asking_among a group channel row) stored_at_among in
    (outcome_among _ refl h, outcome_among _ refl (same raw_value h))

number_among : (s : Stored) → Among physical_numbers (number_of s)
unfolding number_of
number_among (unsigned n) = then _ (test _ _ _ refl) λ _. fine _
number_among (signed bits n) = then _ (test _ _ _ refl) λ _. fine _
number_among (single n) = no 16 0 refl
number_among (double n) = then _ (test _ _ _ refl) λ _. fine _
number_among (part place size) = no 16 0 refl

converted_among : (cc : Body) (x : Float) → Among physical_numbers (converted cc x)
unfolding converted linear
converted_among none x = fine x
converted_among (some cc) x =
    choice (eqb (formula cc) 65535) (fine x)
    (choice (eqb (formula cc) 0) (then _ (test _ _ _ refl) λ _. then _ (test _ _ _ refl) λ _. then _ (test _ _ _ refl) λ _. fine _) (no 16 0 refl))

pub physical_gives_no_other : PhysicalGivesNoOther
unfolding physical_outcome physical_value
physical_gives_no_other a group channel row =
    outcome_among _ refl
    (then _ (more 16 (asking_among a group channel row)) λ x.
    then _ (more 16 (stored_at_among x)) λ s.
    then _ (number_among s) λ y.
    converted_among _ y)
