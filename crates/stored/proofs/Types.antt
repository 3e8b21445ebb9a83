-- The data types by the keys of the code's match.
-- Assumes nothing.
use Prim.Native.Nat.{ℕ, zero, suc, ◌+◌, ◌-◌, ◌≤◌, ◌<◌}
use mathlib.Core.Path.{◌≡◌, refl, sym, ◌∙◌, ap, ap₂}
use mathlib.Core.Logic.{inl, inr}
use mathlib.Core.List.{List, [], ◌∷◌}
use native.Mathlib.Omega.{arith}
use lib.ListN.{get_or-eq_default}
use types.Run.{OneOf}
use Rattle.std.specs.Prelude.{Result, None}
use Rattle.answers.specs.Samples.{Encoding, unsigned_integer, signed_integer, single_float, double_float, unreadable, DataType, data_types, type_of, type_at, stored_as}
use Rattle.bits.specs.Bits.{order_of}
use Rattle.bits.specs.declared.Order.{Order}
use Rattle.reading.specs.declared.Signal.{Signal}
use Rattle.refusal.specs.declared.Refusal.{Refusal}
use Rattle.stored.specs.declared.Stored.{Stored}
use Rattle.stored.specs.Stored.{typed, ReadAs, answer_at}

-- a data type of this encoding
abbrev Reads : Encoding → ℕ → Type 0
Reads e k = (type_at k).encoding ≡ e

one_of_three : (P : ℕ → Type 0) (a b c k : ℕ) → P a → P b → P c → OneOf (a ∷ b ∷ c ∷ []) k → P k
one_of_three P a b c k p q r (inl e) = rw e p
one_of_three P a b c k p q r (inr (inl e)) = rw e q
one_of_three P a b c k p q r (inr (inr e)) = rw e r

pub unsigned_type : (k : ℕ) → OneOf (0 ∷ 9 ∷ 13 ∷ []) k → Reads unsigned_integer k
unsigned_type k h = one_of_three (Reads unsigned_integer) 0 9 13 k refl refl refl h

pub signed_type : (k : ℕ) → OneOf (1 ∷ 10 ∷ 14 ∷ []) k → Reads signed_integer k
signed_type k h = one_of_three (Reads signed_integer) 1 10 14 k refl refl refl h

pub single_type : (k : ℕ) → OneOf (2 ∷ 11 ∷ 15 ∷ []) k → Reads single_float k
single_type k h = one_of_three (Reads single_float) 2 11 15 k refl refl refl h

pub double_type : (k : ℕ) → OneOf (3 ∷ 12 ∷ 16 ∷ []) k → Reads double_float k
double_type k h = one_of_three (Reads double_float) 3 12 16 k refl refl refl h

-- none of the keys below 7, and none from 9 on
module _ (k : ℕ)
    (none : (((Unit {0} × (OneOf (0 ∷ 9 ∷ 13 ∷ []) k → ⊥)) × (OneOf (1 ∷ 10 ∷ 14 ∷ []) k → ⊥)) × (OneOf (2 ∷ 11 ∷ 15 ∷ []) k → ⊥)) × (OneOf (3 ∷ 12 ∷ 16 ∷ []) k → ⊥)) where
  pub low_type : k < 7 → (type_at k).encoding ≡ unreadable
  low_type h = go k refl
    where
      go : (j : ℕ) → k ≡ j → (type_at k).encoding ≡ unreadable
      go zero e = absurd (none.0.0.0.1 (inl e))
      go (suc zero) e = absurd (none.0.0.1 (inl e))
      go (suc (suc zero)) e = absurd (none.0.1 (inl e))
      go (suc (suc (suc zero))) e = absurd (none.1 (inl e))
      go (suc (suc (suc (suc zero)))) e = rw e
      go (suc (suc (suc (suc (suc zero))))) e = rw e
      go (suc (suc (suc (suc (suc (suc zero)))))) e = rw e
      go (suc (suc (suc (suc (suc (suc (suc j))))))) e = absurd (omega arith)

  pub high_type : 9 ≤ k → (type_at k).encoding ≡ unreadable
  high_type h = go (k - 9) (omega arith)
    where
      go : (j : ℕ) → k ≡ 9 + j → (type_at k).encoding ≡ unreadable
      go zero e = absurd (none.0.0.0.1 (inr (inl e)))
      go (suc zero) e = absurd (none.0.0.1 (inr (inl e)))
      go (suc (suc zero)) e = absurd (none.0.1 (inr (inl e)))
      go (suc (suc (suc zero))) e = absurd (none.1 (inr (inl e)))
      go (suc (suc (suc (suc zero)))) e = absurd (none.0.0.0.1 (inr (inr e)))
      go (suc (suc (suc (suc (suc zero))))) e = absurd (none.0.0.1 (inr (inr e)))
      go (suc (suc (suc (suc (suc (suc zero)))))) e = absurd (none.0.1 (inr (inr e)))
      go (suc (suc (suc (suc (suc (suc (suc zero))))))) e = absurd (none.1 (inr (inr e)))
      go (suc (suc (suc (suc (suc (suc (suc (suc j)))))))) e = ap (λ (d : DataType). d.encoding) (get_or-eq_default data_types _ {n = k} (omega arith))

-- ---- a sample by its data type

module _ {image : List ℕ} {at : ℕ} {s : Signal} {field : ℕ} where
  -- the data type that the code read by is the channel's
  pub read_as : (e : Encoding) (o : Order) {r : Result Stored Refusal} → Reads e s.data_type → order_of o ≡ (type_at s.data_type).order → ReadAs (typed e o) image at s field r → ReadAs type_of image at s field r
  read_as e o t b h =
      record {
        is = λ f x i.
            h.is f x i
            ∙ ap₂ (λ g q. stored_as g q f field x) (sym t) b
            ∙ ap (λ n. stored_as (type_at n).encoding (type_at n).order f field x) i.signal.data_type_lem;
        fits = h.fits;
      }

  pub unread : (type_at s.data_type).encoding ≡ unreadable → ReadAs type_of image at s field (answer_at field None)
  unfolding stored_as
  unread t =
      record {
        is = λ f x i.
            ap (λ e. stored_as e (type_at s.data_type).order f field x) (sym t)
            ∙ ap (λ n. stored_as (type_at n).encoding (type_at n).order f field x) i.signal.data_type_lem;
        fits = tt;
      }
