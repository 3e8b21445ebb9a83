-- The state of a loop that writes bytes one part after the other, and its laws.
-- Assumes nothing.
use Rattle.std.specs.Prelude.{◌≡◌, refl, List, [], ◌++◌, ℕ, ◌+◌, ◌≤◌, length}
use Rattle.std.proofs.Common.{sym, ap, ◌∙◌, append_assoc, append-nil, arith, length-append}
use Rattle.write.specs.Write.{Wrote, wrote_none, wrote_as, wrote_length, then}

-- of the bytes `all`, to be written from `at` on, those before `to` stand in `out`, which was `out₀`, and `todo` are still to come
pub record Progress (all out₀ out : List ℕ) (at to : ℕ) (todo : List ℕ) : Type 0 where
  pub done : List ℕ
  pub wrote : Wrote out₀ out at done
  pub reached : to ≡ at + length done
  pub whole : all ≡ done ++ todo

pub start : {all out : List ℕ} {at : ℕ} → Progress all out out at at all
start = record { done = []; wrote = wrote_none; reached = omega arith; whole = refl }

-- the next part is written
pub step : {all out₀ out out₁ : List ℕ} {at to : ℕ} {t u : List ℕ} (x : List ℕ) (q : ℕ)
    → Progress all out₀ out at to t → t ≡ x ++ u → Wrote out out₁ to x → q ≡ to + length x → Progress all out₀ out₁ at q u
step x q f e w l =
    let r = f.reached in
    record {
      done = f.done ++ x;
      wrote = then f.wrote w r;
      reached = rw length-append (omega arith);
      whole = f.whole ∙ rw (e, append_assoc);
    }

-- there is room for the next part
pub room : {all out₀ out : List ℕ} {at to : ℕ} {t : List ℕ} (x u : List ℕ)
    → Progress all out₀ out at to t → t ≡ x ++ u → at + length all ≤ length out₀ → to + length x ≤ length out
room x u f e h =
    let l = ap length (rw e at f.whole) in
    omega (arith, simp length-append at l, wrote_length f.wrote, f.reached)

pub same_length : {all out₀ out : List ℕ} {at to : ℕ} {t : List ℕ} → Progress all out₀ out at to t → length out ≡ length out₀
same_length f = wrote_length f.wrote

pub finish : {all out₀ out : List ℕ} {at to : ℕ} {t : List ℕ} → Progress all out₀ out at to t → t ≡ []
    → Wrote out₀ out at all × (to ≡ at + length all)
finish {all} f e =
    let w : f.done ≡ all = sym (f.whole ∙ rw (e, append-nil)) in
    (wrote_as f.wrote refl w, f.reached ∙ rw w)
