-- Bytes written over a list from a place on, and the laws by which runs of writes compose.
-- Assumes nothing.
use Rattle.std.specs.Prelude.{◌≡◌, refl, List, [], ◌∷◌, ◌++◌, ℕ, suc, ◌+◌, ◌-◌, ◌≤◌, ◌<◌, length, take, drop, set, get_or, replicate}
use Rattle.std.proofs.Common.{sym, ap, ◌∙◌, append_assoc, add-zero, zero-add, add-one, arith, length-take, length-drop, take-suc, get_or-drop}
use Rattle.std.proofs.lemmas.List.{drop-drop, length-replicate, replicate-append-replicate}
use Rattle.std.proofs.lemmas.List.Edits.{sets, sets-eq}
use Rattle.std.proofs.Math.Seq.{length-sets}

-- `d` with the bytes `bs` stored from the place `at` on
unfoldable pub write : List ℕ → ℕ → List ℕ → List ℕ
write d at bs = sets d at bs

pub write_nil : (d : List ℕ) (at : ℕ) → write d at [] ≡ d
unfolding write
write_nil d at = refl

pub length_write : (d : List ℕ) (at : ℕ) (bs : List ℕ) → length (write d at bs) ≡ length d
unfolding write
length_write d at bs = length-sets d at bs

-- a second run that begins where the first ends makes one run
pub write_write : (d : List ℕ) (at : ℕ) (a b : List ℕ) (p : ℕ) → p ≡ at + length a → write (write d at a) p b ≡ write d at (a ++ b)
unfolding write
write_write d at [] b p e = ap (λ (k : ℕ). sets d k b) (e ∙ add-zero at)
write_write d at (x ∷ a) b p e = write_write (set d at x) (suc at) a b p (omega arith)

-- one store more
write_set : (d : List ℕ) (at : ℕ) (a : List ℕ) (x p : ℕ) → p ≡ at + length a → set (write d at a) p x ≡ write d at (a ++ (x ∷ []))
unfolding write
write_set d at a x p e = write_write d at a (x ∷ []) p e

-- a run from the first place on: behind its end all is as it was
pub write_whole : (d bs : List ℕ) → length bs ≤ length d → write d 0 bs ≡ bs ++ drop (length bs) d
unfolding write
write_whole d bs h =
    let g : 0 + length bs ≤ length d = omega arith in
    sets-eq bs d 0 g ∙ rw zero-add

-- the turn of a loop that writes a part of a list, and of one that writes zeros
pub write_part_suc : (d : List ℕ) (at : ℕ) (s : List ℕ) (from i : ℕ) → i < length s - from
    → set (write d at (take i (drop from s))) (at + i) (get_or s (from + i) 0) ≡ write d at (take (i + 1) (drop from s))
write_part_suc d at s from i h =
    let g : i < length (drop from s) = simp length-drop (omega arith) in
    let e : at + i ≡ at + length (take i (drop from s)) = simp (length-take, length-drop) (omega arith) in
    let f : take (suc i) (drop from s) ≡ take i (drop from s) ++ (get_or s (from + i) 0 ∷ []) = take-suc (drop from s) i 0 g ∙ rw get_or-drop in
    write_set d at (take i (drop from s)) (get_or s (from + i) 0) (at + i) e ∙ rw (add-one, f)

pub write_zero_suc : (d : List ℕ) (at i : ℕ) → set (write d at (replicate i 0)) (at + i) 0 ≡ write d at (replicate (i + 1) 0)
write_zero_suc d at i =
    let e : at + i ≡ at + length {A = ℕ} (replicate i 0) = rw length-replicate in
    write_set d at (replicate i 0) 0 (at + i) e ∙ ap (write d at) (replicate-append-replicate i 1 0)

-- `d₁` is `d` with `bs` written from `at` on. A record, so that a law over it finds its arguments by itself
pub record Wrote (d d₁ : List ℕ) (at : ℕ) (bs : List ℕ) : Type 0 where
  pub is : d₁ ≡ write d at bs

pub wrote_none : {d : List ℕ} {at : ℕ} → Wrote d d at []
wrote_none {d} {at} = record { is = sym (write_nil d at) }

-- one store
pub wrote_one : {d : List ℕ} {at x : ℕ} → Wrote d (set d at x) at (x ∷ [])
unfolding write
wrote_one = record { is = refl }

-- a part written as a whole
pub wrote_mid : {d bs : List ℕ} {at k : ℕ} → length bs ≡ k → at + k ≤ length d → Wrote d (take at d ++ (bs ++ drop k (drop at d))) at bs
unfolding write
wrote_mid {d} {bs} {at} e h = record { is = sym (sets-eq bs d at (omega arith) ∙ rw (append_assoc, e, drop-drop)) }

-- two runs one after the other
pub then : {d d₁ d₂ : List ℕ} {at p : ℕ} {a b : List ℕ} → Wrote d d₁ at a → Wrote d₁ d₂ p b → p ≡ at + length a → Wrote d d₂ at (a ++ b)
then {d} {d₁} {d₂} {at} {p} {a} {b} e f q = record { is = f.is ∙ rw e.is (write_write d at a b p q) }

-- the same, place and bytes said in another way
pub wrote_as : {d d₁ : List ℕ} {at p : ℕ} {a b : List ℕ} → Wrote d d₁ at a → at ≡ p → a ≡ b → Wrote d d₁ p b
wrote_as w e f = rw (← e, ← f) w

pub wrote_length : {d d₁ : List ℕ} {at : ℕ} {a : List ℕ} → Wrote d d₁ at a → length d₁ ≡ length d
wrote_length {d} {d₁} {at} {a} w = ap length w.is ∙ length_write d at a

pub wrote_whole : {d d₁ a : List ℕ} → Wrote d d₁ 0 a → length a ≤ length d → d₁ ≡ a ++ drop (length a) d
wrote_whole {d} {d₁} {a} w h = w.is ∙ write_whole d a h

-- the bytes, then zeros up to `len`
abbrev pub filled : List ℕ → ℕ → List ℕ
filled bytes len = bytes ++ replicate (len - length bytes) 0
