-- Laws of lists of entries.
-- Assumes nothing.
use Prim.Native.Nat.{ℕ, zero, suc, ◌+◌, ◌*◌, ◌-◌, ◌≤◌, ◌<◌, min}
use mathlib.Core.Path.{◌≡◌, refl, sym, ap, ◌∙◌}
use mathlib.Core.Bool.{Bool, true, false}
use mathlib.Core.List.{List, [], ◌∷◌, ◌++◌, map, append_assoc, append-nil}
use native.Mathlib.Omega.{arith}
use native.Mathlib.Numerals.{add-one}
use lib.Dec.{leb, ltb}
use lib.ListN.{length, length-append}
use borrow.Author.Tests.{leb-true, leb-false, le-leb, lt-leb}
use Rattle.std.proofs.lemmas.Bool.{ltb-true}
use Rattle.answers.specs.Readings.{join}
use Rattle.answers.specs.Differences.{Entry, entry, entry_bytes, alone}
use Rattle.write.specs.Write.{Wrote, wrote_none, wrote_as, wrote_length, then}
use Rattle.listing.specs.declared.Length.{Length}
use Rattle.listing.specs.declared.List.{List as Written}
use Rattle.listing.specs.Listing.{capped, entries_bytes, numbered, Listed}
use Rattle.listing.specs.Growing.{Grown, Listing}

-- ---- lengths

pub capped_exact : (n : ℕ) → n ≤ 2147483647 → capped n ≡ n
unfolding capped
capped_exact n h = rw (le-leb n 2147483647 h)

pub capped_over : (n : ℕ) → 2147483647 < n → capped n ≡ 2147483648
unfolding capped
capped_over n h = rw (lt-leb n 2147483647 h)

-- whatever the length, one of the two
by_length : {P : Type 0} (n : ℕ) → (n ≤ 2147483647 → P) → (2147483647 < n → P) → P
by_length {P} n f g = go (leb n 2147483647) refl
  where
    go : (t : Bool) → leb n 2147483647 ≡ t → P
    go true e = f (leb-true n 2147483647 e)
    go false e = g (leb-false n 2147483647 e)

pub capped_least : (n : ℕ) → min n 2147483648 ≡ capped n
capped_least n = by_length n (λ h. omega (arith, capped_exact n h)) (λ h. omega (arith, capped_over n h))

-- what is reached is exact as long as it is not too long
pub capped_short : (n : ℕ) → capped n ≤ 2147483647 → capped n ≡ n
capped_short n h = by_length n (capped_exact n) (λ g. absurd (omega (arith, capped_over n g)))

pub capped_long : (n : ℕ) → 2147483647 < capped n → 2147483647 < n
capped_long n h = by_length n (λ g. absurd (omega (arith, capped_exact n g))) (λ g. g)

capped_sum : (m n : ℕ) → capped (capped m + n) ≡ capped (m + n)
capped_sum m n =
    by_length m
    (λ h. ap (λ k. capped (k + n)) (capped_exact m h))
    (λ h. let e = capped_over m h in capped_over (capped m + n) (omega (arith, e)) ∙ sym (capped_over (m + n) (omega arith)))

capped_self : (n : ℕ) → n ≤ 2147483648 → capped n ≡ n
capped_self n h = by_length n (capped_exact n) (λ g. capped_over n g ∙ omega arith)

-- ---- bytes

entry_length : (e : Entry) → length (entry_bytes e) ≡ 16
entry_length e = refl

pub entries_length : (es : List Entry) → length (entries_bytes es) ≡ 16 * length es
unfolding entries_bytes
entries_length [] = refl
entries_length (e ∷ es) = length-append (entry_bytes e) (join (map entry_bytes es)) ∙ omega (arith, entry_length e, entries_length es)

entries_append : (es fs : List Entry) → entries_bytes (es ++ fs) ≡ entries_bytes es ++ entries_bytes fs
unfolding entries_bytes
entries_append [] fs = refl
entries_append (e ∷ es) fs = ap (λ bs. entry_bytes e ++ bs) (entries_append es fs) ∙ sym (append_assoc (entry_bytes e) (join (map entry_bytes es)) (join (map entry_bytes fs)))

entries_none : entries_bytes [] ≡ []
unfolding entries_bytes
entries_none = refl

entries_one : (e : Entry) → entries_bytes (e ∷ []) ≡ entry_bytes e
unfolding entries_bytes
entries_one e = append-nil (entry_bytes e)

-- ---- entries one behind the other

module _ {out out₁ : List ℕ} {at to : ℕ} {es : List Entry} (l : Listed out out₁ at to es) where
  pub listed_as : {fs : List Entry} → es ≡ fs → Listed out out₁ at to fs
  listed_as e = rw (← e) l

  pub listed_then : {out₂ : List ℕ} {end : ℕ} {fs : List Entry} → Listed out₁ out₂ to end fs → Listed out out₂ at end (es ++ fs)
  listed_then {out₂} {end} {fs} m =
      let n = length-append es fs in
      let s : at + 16 * length es + 16 * length fs ≡ at + 16 * length (es ++ fs) = omega arith in
      let r : end ≡ capped (at + 16 * length (es ++ fs)) = m.reached ∙ ap (λ k. capped (k + 16 * length fs)) l.reached ∙ capped_sum (at + 16 * length es) (16 * length fs) ∙ ap capped s in
      record {
        kept = m.kept ∙ l.kept;
        reached = r;
        wrote =
            λ room few.
            let t : to ≡ at + 16 * length es = l.reached ∙ capped_exact (at + 16 * length es) (omega arith) in
            let k = l.kept in
            wrote_as (then (l.wrote (omega arith) (omega arith)) (m.wrote (omega (arith, k)) (omega arith)) (t ∙ ap (λ k. at + k) (sym (entries_length es)))) refl (sym (entries_append es fs));
      }

pub listed_none : {out : List ℕ} (at : Length) → Listed out out at.bytes at.bytes []
listed_none at =
    let e : at.bytes ≡ at.bytes + 16 * length {A = Entry} [] = omega arith in
    record {
      kept = refl;
      reached = sym (capped_self at.bytes at.capped) ∙ ap capped e;
      wrote = λ room few. wrote_as wrote_none refl (sym entries_none);
    }

-- no room for them: nothing is written
pub listed_short : {out : List ℕ} (at : ℕ) (es : List Entry) (to : ℕ) → to ≡ capped (at + 16 * length es) → length out < at + 16 * length es → Listed out out at to es
listed_short at es to e h =
    record {
      kept = refl;
      reached = e;
      wrote = λ room few. absurd (omega arith);
    }

-- too long a list
pub listed_long : {out : List ℕ} (at : ℕ) (es : List Entry) (to : ℕ) → to ≡ capped (at + 16 * length es) → 2147483647 < to → Listed out out at to es
listed_long at es to e h =
    record {
      kept = refl;
      reached = e;
      wrote = λ room few. absurd (omega (arith, capped_exact (at + 16 * length es) few));
    }

pub listed_one : {out out₁ : List ℕ} (at to : ℕ) (one : Entry) → to ≡ capped (at + 16) → Wrote out out₁ at (entry_bytes one) → Listed out out₁ at to (one ∷ [])
listed_one at to one e w =
    record {
      kept = wrote_length w;
      reached = e;
      wrote = λ room few. wrote_as w refl (sym (entries_one one));
    }

-- ---- a list that grows

pub grown_none : (l : Written) → Grown l l []
grown_none l = record { lent = refl; listed = listed_none l.length }

module _ {l m : Written} {es : List Entry} (g : Grown l m es) where
  pub grown_as : {fs : List Entry} → es ≡ fs → Grown l m fs
  grown_as e = rw (← e) g

  pub grown_then : {n : Written} {fs : List Entry} → Grown m n fs → Grown l n (es ++ fs)
  grown_then h = record { lent = h.lent ∙ g.lent; listed = listed_then g.listed h.listed }

-- ---- a loop that lists

pub begin : {all : List Entry} (l : Written) → Listing all l l all
begin l = record { done = []; grown = grown_none l; whole = refl }

module _ {all : List Entry} {l m : Written} {todo : List Entry} (p : Listing all l m todo) where
  pub turn : {n : Written} (es : List Entry) {rest : List Entry} → todo ≡ es ++ rest → Grown m n es → Listing all l n rest
  turn es {rest} e g =
      record {
        done = p.done ++ es;
        grown = grown_then p.grown g;
        whole = p.whole ∙ ap (λ fs. p.done ++ fs) e ∙ sym (append_assoc p.done es rest);
      }

  pub finish : {n : Written} → Grown m n todo → Grown l n all
  finish g = grown_as (grown_then p.grown g) (sym p.whole)

  pub end : todo ≡ [] → Grown l m all
  end e = grown_as p.grown (sym (append-nil p.done) ∙ ap (λ fs. p.done ++ fs) (sym e) ∙ sym p.whole)

  -- already too long, as a test of `is_too_long` tells: what is still to come does not matter
  pub stop : {too_long : Bool} → too_long ≡ ltb 2147483647 m.length.bytes → too_long ≡ true → Grown l m all
  stop tells holds =
      let at = l.length.bytes in
      let q = p.grown.listed in
      let h = ltb-true 2147483647 m.length.bytes (sym tells ∙ holds) in
      let k = capped_long (at + 16 * length p.done) (rw q.reached at h) in
      let n : length all ≡ length p.done + length todo = ap length p.whole ∙ length-append p.done todo in
      let e : 2147483647 < at + 16 * length all = omega arith in
      record {
        lent = p.grown.lent;
        listed = record {
          kept = q.kept;
          reached = q.reached ∙ capped_over (at + 16 * length p.done) k ∙ sym (capped_over (at + 16 * length all) e);
          wrote = λ room few. absurd (omega arith);
        };
      }

-- ---- items by their numbers

pub numbered_length : (kind g i n : ℕ) → length (numbered kind g i n) ≡ n
unfolding numbered
numbered_length kind g i zero = refl
numbered_length kind g i (suc n) = ap suc (numbered_length kind g (suc i) n)

pub numbered_none : (kind g i : ℕ) → numbered kind g i 0 ≡ []
unfolding numbered
numbered_none kind g i = refl

pub numbered_next : (kind g i end : ℕ) → i < end → numbered kind g i (end - i) ≡ (entry kind g i 0 ∷ []) ++ numbered kind g (i + 1) (end - (i + 1))
unfolding numbered
numbered_next kind g i end h =
    let k : end - i ≡ suc (end - (i + 1)) = omega arith in
    rw (k, add-one)

pub alone_numbered : {A : Type 0} (kind g i : ℕ) (xs : List A) → alone kind g i xs ≡ numbered kind g i (length xs)
unfolding alone numbered
alone_numbered kind g i [] = refl
alone_numbered kind g i (x ∷ xs) = ap (λ es. entry kind g i 0 ∷ es) (alone_numbered kind g (suc i) xs)
