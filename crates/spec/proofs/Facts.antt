-- The proofs of specs/Facts.antt.
-- Assumes nothing.
use Prim.Native.Nat.{ℕ}
use mathlib.Core.Path.{◌≡◌, refl, sym, ◌∙◌, ap}
use mathlib.Core.Bool.{Bool, true, ◌&&◌}
use mathlib.Core.List.{List, [], ◌∷◌, ◌++◌}
use mathlib.Core.Option.{none, some}
use native.Mathlib.Omega.{arith}
use lib.Dec.{ltb}
use lib.ListN.{length, take, drop}
use borrow.Author.Tests.{lt-leb, ltb-true}
use Rattle.spec.specs.Bytes.{Bytes, field}
use Rattle.spec.specs.Answer.{Answer, refused, accepted, ◌>>=◌, require, map_answer, passed}
use Rattle.spec.specs.Reading.{Reading}
use Rattle.spec.specs.Found.{FoundFile, reading_of}
use Rattle.spec.specs.Block.{opening, open_block, body_at, read_hd, read_dg, read_cg, read_cn}
use Rattle.spec.specs.Records.{in_order, log_from, log_of}
use Rattle.spec.specs.Walk.{fields_pass, formula_passes, conversion_at, channel_at, channel_list, group_list, data_group_list, file_from, ident_passes, walk, reads}
use Rattle.spec.specs.Canonical.{channel_length, copy_length, canonical_copy}
use Rattle.spec.specs.Example.{success, refusal, counting, id300, signal}
use Rattle.spec.specs.Sample.{Stored, part, part_of}
use Rattle.spec.specs.Call.{outcome_of, check_outcome, copying, copied, copy_outcome, comparing, compared, compare_outcome, sampling, sample_outcome, part_in, part_outcome, programming, program_outcome, printed, line, program_output}
use Rattle.spec.specs.Facts.{LongImageIsRefused, LongCopyIsRefused, LongListIsRefused, CompareRefusesTheFirst, CompareRefusesTheSecond, IdentIsCarried, PartIsTheSample, ProgramWritesTheCopy, ProgramWritesTheRefusal, small_file, SomethingIsCopied}
use Rattle.spec.proofs.RoundTrip.{length_canonical}
use Rattle.spec.proofs.Accepted.{accepted_well_formed}
use Rattle.spec.proofs.Answers.{step, stop, fail, both, Gives, gives, bind, test, anything}

pub long_image_is_refused : LongImageIsRefused
unfolding check_outcome walk
long_image_is_refused a h = ap (λ m. outcome_of (passed m)) (stop _ (fail _ _ _ (lt-leb _ _ h)))

pub long_copy_is_refused : LongCopyIsRefused
unfolding copy_outcome copying
long_copy_is_refused a r e h out = ap (λ m. copied m out) (step _ e (stop _ (fail _ _ _ (lt-leb _ _ h))))

pub long_list_is_refused : LongListIsRefused
unfolding compare_outcome comparing
long_list_is_refused a b r s e e' h out = ap (λ m. compared m out) (step _ e (step _ e' (stop _ (fail _ _ _ (lt-leb _ _ h)))))

-- ---- the ident

ident_kept : (a : List ℕ) → Gives (walk a) (λ f. f.ident ≡ take 64 a)
unfolding walk file_from
ident_kept a =
    bind _ (test _ _ _) λ _ _.
    bind _ (test _ _ _) λ _ _.
    bind _ (anything _) λ _ _.
    bind _ (anything _) λ hd _.
    bind _ (anything _) λ comment _.
    bind _ (anything _) λ program _.
    bind _ (anything _) λ groups _.
    gives _ refl

pub ident_is_carried : IdentIsCarried
unfolding reads reading_of
ident_is_carried a r e = go (walk a) refl e
  where
    go : (m : Answer FoundFile) → walk a ≡ m → map_answer reading_of m ≡ accepted r → r.ident ≡ take 64 a
    go (refused n p) q e = let z : ◌≡◌ {A = ℕ} 0 1 = cc in absurd (omega arith)
    go (accepted f) q e =
        let s : reading_of f ≡ r = cc in
        sym (ap (λ (x : Reading). x.ident) s) ∙ (ident_kept a).given f q

-- ---- calls that go together

refused_reads : (a : List ℕ) (n p : ℕ) → check_outcome a ≡ refusal n p → reads a ≡ refused n p
unfolding check_outcome reads
refused_reads a n p e = go (walk a) e
  where
    go : (m : Answer FoundFile) → outcome_of (passed m) ≡ refusal n p → map_answer reading_of m ≡ refused n p
    go (refused k q) e =
        let i : k ≡ n = ap (λ o. o.number) e in
        let j : q ≡ p = ap (λ o. o.place) e in
        cc
    go (accepted f) e =
        let v : some tt ≡ none = ap (λ o. o.value) e in
        let z : ◌≡◌ {A = ℕ} 0 1 = cc in absurd (omega arith)

accepted_reads : (a : List ℕ) → check_outcome a ≡ success tt → (r : Reading) × (reads a ≡ accepted r)
unfolding check_outcome reads
accepted_reads a e = go (walk a) e
  where
    go : (m : Answer FoundFile) → outcome_of (passed m) ≡ success tt → (r : Reading) × (map_answer reading_of m ≡ accepted r)
    go (refused k q) e =
        let v : none ≡ some tt = ap (λ o. o.value) e in
        let z : ◌≡◌ {A = ℕ} 0 1 = cc in absurd (omega arith)
    go (accepted f) e = (reading_of f, refl)

pub compare_refuses_the_first : CompareRefusesTheFirst
unfolding compare_outcome comparing
compare_refuses_the_first a b n p e out = ap (λ m. compared m out) (stop _ (refused_reads a n p e))

pub compare_refuses_the_second : CompareRefusesTheSecond
unfolding compare_outcome comparing
compare_refuses_the_second a b n p e e' out = ap (λ m. compared m out) (step _ (accepted_reads a e).1 (stop _ (refused_reads b n p e')))

pub part_is_the_sample : PartIsTheSample
unfolding sample_outcome part_outcome part_of
part_is_the_sample a group channel row p n e = go (sampling a group channel row) e
  where
    go : (m : Answer Stored) → (outcome_of m).value ≡ some (part p n) → part_in a m ≡ take n (drop p a)
    go (refused k q) e = let z : ◌≡◌ {A = ℕ} 0 1 = cc in absurd (omega arith)
    go (accepted s) e = let i : s ≡ part p n = cc in rw i

-- what is copied is the image's own reading
program_reads : (a : List ℕ) (n : ℕ) → Gives (programming a n) (λ r. reads a ≡ accepted r)
unfolding programming copying
program_reads a n =
    bind _ (test _ _ _) λ _ _.
    bind {P = λ r. reads a ≡ accepted r} _ (record { given = λ r e. e }) λ r e.
    bind _ (test _ _ _) λ _ _.
    bind _ (test _ _ _) λ _ _.
    gives _ e

pub program_writes_the_copy : ProgramWritesTheCopy
unfolding program_outcome program_output
program_writes_the_copy a out n bytes l e = rw l (go (programming a 32768) refl (rw l at e))
  where
    same_some : {x y : ℕ} → some x ≡ some y → x ≡ y
    same_some z = cc

    go : (m : Answer Reading) → programming a 32768 ≡ m → (copied m out).given.value ≡ some n → ((copied m out).memory ≡ printed m ++ drop n out) × (n ≡ length (printed m))
    go (refused k q) o e = let z : ◌≡◌ {A = ℕ} 0 1 = cc in absurd (omega arith)
    go (accepted r) o e =
        let i = same_some e in
        let ok = accepted_well_formed a bytes r ((program_reads a 32768).given r o) in
        (ap (λ k. canonical_copy r ++ drop k out) i, sym (length_canonical r ok ∙ i))

pub program_writes_the_refusal : ProgramWritesTheRefusal
unfolding program_outcome program_output
program_writes_the_refusal a out l e = rw l (go (programming a 32768) (rw l at e))
  where
    go : (m : Answer Reading) → (copied m out).given.value ≡ none → ((copied m out).memory ≡ out) × (printed m ≡ line (copied m out).given.number (copied m out).given.place)
    go (refused k q) e = (refl, refl)
    go (accepted r) e = let z : ◌≡◌ {A = ℕ} 0 1 = cc in absurd (omega arith)

-- ---- demand 3 speaks of something

all_bytes : List ℕ → Bool
all_bytes [] = true
all_bytes (x ∷ xs) = ltb x 256 && all_bytes xs

all_bytes_lem : (xs : List ℕ) → all_bytes xs ≡ true → Bytes xs
unfolding all_bytes
all_bytes_lem [] e = tt
all_bytes_lem (x ∷ xs) e =
    let b = both (ltb x 256) (all_bytes xs) e in
    (ltb-true x 256 b.0, all_bytes_lem xs b.1)

small_reading : Reading
small_reading =
    record {
      ident = id300;
      plain = counting 100 146;
      later = [];
      comment = none;
      program = none;
      groups =
          record {
            record_size = 1;
            comment = none;
            channels =
                record {
                  fields = record { main = take 194 (drop 24 (signal 0 8 0)); added = 0 ∷ 0 ∷ [] };
                  conversion = none;
                  extension = none;
                  comment = none;
                  long_name = none;
                  display_name = none;
                }
                ∷ [];
            records = (255 ∷ []) ∷ [];
          }
          ∷ [];
    }

pub something_is_copied : SomethingIsCopied
unfolding small_reading all_bytes field ◌>>=◌ require opening open_block body_at read_hd read_dg read_cg read_cn in_order log_from log_of reading_of fields_pass formula_passes conversion_at channel_at channel_list group_list data_group_list file_from ident_passes walk reads copy_length channel_length
something_is_copied =
    (small_reading, record { bytes = all_bytes_lem small_file refl; reading = refl; within = omega arith }, omega arith)
