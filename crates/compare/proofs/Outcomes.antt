-- What a compare call answers in each case, and what it leaves in the output.
-- Assumes nothing.
use Prim.Native.Nat.{ℕ, ◌+◌, ◌*◌, ◌≤◌}
use mathlib.Core.Path.{◌≡◌, refl, sym, ◌∙◌, ap}
use mathlib.Core.List.{List, [], ◌∷◌, ◌++◌, map}
use native.Mathlib.Omega.{arith}
use lib.ListN.{length, drop}
use Rattle.answers.specs.Readings.{Group, Reading, refused, accepted, join}
use Rattle.answers.specs.Differences.{Entry, entry_bytes, file_entries, groups_entries, differences, list_length, list_bytes, entry, unless, same_bytes, same_body, same_header}
use Rattle.answers.specs.Outcomes.{Outcome, outcome_of, CopyOutcome, compared, comparing, compare_outcome}
use Rattle.answers.proofs.Laws.{step, stop}
use Rattle.write.specs.Write.{wrote_whole}
use Rattle.refusal.specs.declared.Refusal.{Refusal}
use Rattle.refusal.specs.Refused.{number_of, fitting}
use Rattle.refusal.proofs.Fitting.{both_tests, as_needed, within}
use Rattle.reading.specs.Promise.{reads, image_reading}
use Rattle.reading.specs.Steps.{AccessIs, reading_of}
use Rattle.reading.specs.declared.File.{File}
use Rattle.std.specs.Prelude.{Ok, Err}
use Rattle.listing.specs.declared.List.{List as Written}
use Rattle.listing.specs.Growing.{Grown}
use Rattle.listing.specs.Listing.{capped, entries_bytes, Listed}
use Rattle.listing.proofs.Laws.{grown_then, entries_length, capped_exact, capped_over, capped_short}
use Rattle.compare.specs.Comparing.{ComparedAs, capped_length}

-- ---- the list

-- ID, header, comment, program
pub file_listed : (r s : Reading) {before first second third after : Written}
    → Grown before first (unless (same_bytes r.ident s.ident) (entry 1 0 0 0))
    → Grown first second (unless (same_header r s) (entry 1 0 1 0))
    → Grown second third (unless (same_body r.comment s.comment) (entry 1 0 2 0))
    → Grown third after (unless (same_body r.program s.program) (entry 1 0 3 0))
    → Grown before after (file_entries r s)
unfolding file_entries
file_listed r s l m n o = grown_then l (grown_then m (grown_then n o))

pub groups_from_lem : {i : ℕ} {ps qs ps' qs' : List Group} → i ≡ 0 → ps ≡ ps' → qs ≡ qs' → groups_entries i ps qs ≡ groups_entries 0 ps' qs'
groups_from_lem e f h = rw (e, f, h)

-- the whole list, from its start in the memory that was lent for it
pub all_listed : (r s : Reading) {before file after : Written} {out out₁ : List ℕ}
    → before.out.now ≡ out
    → before.length.bytes ≡ 0
    → Grown before file (file_entries r s)
    → Grown file after (groups_entries 0 r.groups s.groups)
    → out₁ ≡ after.out.now
    → Listed out out₁ 0 after.length.bytes (differences r s)
unfolding differences
all_listed r s e z l m f = rw f (rw (e, z) at (grown_then l m).listed)

bytes_are : (r s : Reading) → entries_bytes (differences r s) ≡ list_bytes r s
unfolding list_bytes entries_bytes
bytes_are r s = refl

module _ (r s : Reading) {out out₁ : List ℕ} {to : ℕ} (l : Listed out out₁ 0 to (differences r s)) where
  length_is : 0 + 16 * length (differences r s) ≡ list_length r s
  unfolding list_length
  length_is = omega arith

  -- what is reached is the list's length
  pub reached_is : to ≡ capped_length r s
  reached_is = l.reached ∙ ap capped length_is

  -- and where there is room for it, it is what stands in the output
  output_is : (n : ℕ) → n ≡ list_length r s → n ≤ 2147483647 → n ≤ length out → out₁ ≡ list_bytes r s ++ drop n out
  output_is n k h room =
      let e = length_is in
      let m : length (entries_bytes (differences r s)) ≡ n = entries_length (differences r s) ∙ omega arith in
      wrote_whole (l.wrote (omega arith) (omega arith)) (omega arith) ∙ ap (λ j. entries_bytes (differences r s) ++ drop j out) m ∙ ap (λ bs. bs ++ drop n out) (bytes_are r s)

-- an empty list leaves the output as it was
empty_list : (r s : Reading) (out : List ℕ) {n : ℕ} → n ≡ list_length r s → n ≡ 0 → out ≡ list_bytes r s ++ drop n out
unfolding list_length list_bytes
empty_list r s out e z = rw z (go (differences r s) (omega (arith, e, z)))
  where
    go : (es : List Entry) → length es ≡ 0 → out ≡ join (map entry_bytes es) ++ drop 0 out
    go [] e = refl
    go (e ∷ es) f = absurd (omega arith)

-- ---- answers

-- the reading of an image that is opened
pub opened : {image : List ℕ} (f : File) → AccessIs image (Ok f) → reads image ≡ accepted (reading_of f)
opened f e = e.1 ∙ ap (λ x. accepted (image_reading x)) (sym e.0)

answered : {o p : CopyOutcome} {given : Outcome ℕ} {out : List ℕ} → o ≡ p → (given ≡ p.given) × (out ≡ p.memory) → (given ≡ o.given) × (out ≡ o.memory)
answered e h = (h.0 ∙ sym (ap (λ x. x.given) e), h.1 ∙ sym (ap (λ x. x.memory) e))

module _ (a b out : List ℕ) where
  pub first_refused : (e : Refusal) → reads a ≡ refused (number_of e.reason) e.place → ComparedAs (compare_outcome a b out) (Err e) out
  unfolding compare_outcome comparing
  first_refused e h = answered (ap (λ m. compared m out) (stop _ h)) (refl, refl)

  module _ (r : Reading) (e : reads a ≡ accepted r) where
    pub second_refused : (f : Refusal) → reads b ≡ refused (number_of f.reason) f.place → ComparedAs (compare_outcome a b out) (Err f) out
    unfolding compare_outcome comparing
    second_refused f h = answered (ap (λ m. compared m out) (step _ e (stop _ h))) (refl, refl)

    -- both images are accepted, with the length of the list as far as it is needed
    module _ (s : Reading) (f : reads b ≡ accepted s) (n : ℕ) (k : n ≡ capped_length r s) where
      fitting_as : fitting n (length out) ≡ fitting (list_length r s) (length out)
      fitting_as =
          as_needed _ _ _ (λ h. k ∙ capped_exact (list_length r s) h) (λ h. omega (arith, k, capped_over (list_length r s) h))

      pub unfit : (t : Refusal) → fitting n (length out) ≡ refused (number_of t.reason) t.place → ComparedAs (compare_outcome a b out) (Err t) out
      unfolding compare_outcome comparing
      unfit t h =
          answered (ap (λ m. compared m out) (step _ e (step _ f (both_tests _ _ _ ∙ stop _ (sym fitting_as ∙ h))))) (refl, refl)

      module _ (h : fitting n (length out) ≡ accepted tt) where
        exact : n ≡ list_length r s
        exact = k ∙ capped_short (list_length r s) (omega (arith, k, (within n (length out) h).0))

        written : {out₁ : List ℕ} → out₁ ≡ list_bytes r s ++ drop n out → ComparedAs (compare_outcome a b out) (Ok n) out₁
        unfolding compare_outcome comparing
        written w =
            answered (ap (λ m. compared m out) (step _ e (step _ f (both_tests _ _ _ ∙ step _ (sym fitting_as ∙ h) refl))))
            (ap (λ m. outcome_of (accepted m)) exact, w ∙ ap (λ m. list_bytes r s ++ drop m out) exact)

        pub nothing_listed : n ≡ 0 → ComparedAs (compare_outcome a b out) (Ok 0) out
        nothing_listed z = rw z at (written (empty_list r s out exact z))

        pub all_written : {out₁ : List ℕ} {to : ℕ} → Listed out out₁ 0 to (differences r s) → ComparedAs (compare_outcome a b out) (Ok n) out₁
        all_written l = let w = within n (length out) h in written (output_is r s l n exact w.0 w.1)
