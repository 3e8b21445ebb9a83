-- The bits of a channel in a record, and the tests of refusal 15.
-- Assumes nothing.
use Prim.Native.Nat.{ℕ, ◌+◌, ◌*◌, ◌/◌, ◌%◌, ◌^◌}
use mathlib.Core.Path.{◌≡◌, refl, sym, ◌∙◌, ap}
use mathlib.Core.Bool.{Bool, true, false, ◌&&◌}
use mathlib.Core.List.{List}
use lib.Dec.{leb, eqb}
use native.Mathlib.Omega.{arith}
use borrow.Author.Tests.{eq-eqb, ne_eqb, eqb-true, eqb-false}
use Rattle.std.specs.Prelude.{Option, Some, None, option_map, MatchOption, IsSomeAnd}
use Rattle.answers.specs.Readings.{accepted}
use Rattle.answers.specs.Samples.{Fields, Logged, bit_offset, bit_count, number_in, pattern, unsigned, signed, single, double, unsigned_integer, signed_integer, single_float, double_float, stored_as}
use Rattle.answers.proofs.Laws.{refuses, admits}
use Rattle.bits.specs.Bits.{order_of, bits_at}
use Rattle.bits.specs.declared.Order.{Order}
use Rattle.reading.specs.declared.Signal.{Signal}
use Rattle.stored.specs.declared.Stored.{Stored}
use Rattle.stored.specs.declared.Stored.TheVariants as stored
use Rattle.stored.specs.Stored.{stored_of, PartFits, BitsOf, NumberIs, typed, ReadAs, answer_at}

-- a whole number of bytes
whole_bytes : (b : ℕ) → eqb b (8 * (b / 8)) ≡ eqb (b % 8) 0
whole_bytes b = go (eqb (b % 8) 0) refl
  where
    go : (t : Bool) → eqb (b % 8) 0 ≡ t → eqb b (8 * (b / 8)) ≡ t
    go true e = let r = eqb-true (b % 8) 0 e in eq-eqb b (8 * (b / 8)) (omega arith)
    go false e = let r = eqb-false (b % 8) 0 e in ne_eqb b (8 * (b / 8)) (λ i. r (omega arith))

module _ (image : List ℕ) (at : ℕ) (s : Signal) (f : Fields) (x : Logged) (h : BitsOf image at s f x) where
  pub pattern_is : (order : Order) → bits_at order image at s.bit s.bits ≡ pattern (order_of order) f x.content
  unfolding bits_at pattern
  pattern_is order =
      rw (h.signal.bit, h.signal.bits)
      (ap (λ (bytes : List ℕ). number_in (order_of order) bytes / 2 ^ bit_offset f % 2 ^ bit_count f) (sym h.bytes))

  -- a test of the number of bits
  pub within_is : leb (s.bit + s.bits) 64 ≡ leb (bit_offset f + bit_count f) 64
  within_is = rw (h.signal.bit, h.signal.bits)

  -- a test of the first bit and of the width
  pub fills_is : (w : ℕ) → (eqb s.bit 0 && eqb s.bits w) ≡ (eqb (bit_offset f) 0 && eqb (bit_count f) w)
  fills_is w = rw (h.signal.bit, h.signal.bits)

  pub runs_is : (eqb s.bit 0 && eqb s.bits (8 * (s.bits / 8))) ≡ (eqb (bit_offset f) 0 && eqb (bit_count f % 8) 0)
  runs_is = rw (whole_bytes s.bits, h.signal.bit, h.signal.bits)

-- ---- a sample by its bits

-- what the library says of a map
pub mapped : (k : ℕ → Stored) (r : Option ℕ) (o : Option Stored) → MatchOption r (o ≡ None) (λ n. IsSomeAnd o (λ x. x ≡ k n)) → o ≡ option_map k r
mapped k None o h = h
mapped k (Some n) (Some x) h = ap Some h
mapped k (Some n) None h = absurd h

module _ (image : List ℕ) (at : ℕ) (s : Signal) (order : Order) (field : ℕ) where
  pub unsigned_read : (r : Option ℕ) → NumberIs (leb (s.bit + s.bits) 64) order image at s r → ReadAs (typed unsigned_integer order) image at s field (answer_at field (option_map stored.Unsigned r))
  unfolding stored_as
  unsigned_read None h = record { is = λ f x i. refuses _ _ _ _ (sym (within_is _ _ _ f x i) ∙ h); fits = tt }
  unsigned_read (Some n) h =
      record {
        is = λ f x i. admits _ _ _ _ (sym (within_is _ _ _ f x i) ∙ h.0) (ap (λ m. accepted (unsigned m)) (h.1 ∙ pattern_is _ _ _ f x i _));
        fits = tt;
      }

  pub signed_read : (r : Option ℕ) (o : Option Stored) → NumberIs (leb (s.bit + s.bits) 64) order image at s r
      → MatchOption r (o ≡ None) (λ n. IsSomeAnd o (λ v. (stored_of v ≡ signed s.bits n) × PartFits image v))
      → ReadAs (typed signed_integer order) image at s field (answer_at field o)
  unfolding stored_as
  signed_read None o h e = rw e (record { is = λ f x i. refuses _ _ _ _ (sym (within_is _ _ _ f x i) ∙ h); fits = tt })
  signed_read (Some n) None h e = absurd e
  signed_read (Some n) (Some v) h e =
      record {
        is = λ f x i. admits _ _ _ _ (sym (within_is _ _ _ f x i) ∙ h.0) (ap accepted (e.0 ∙ rw (i.signal.bits, h.1 ∙ pattern_is _ _ _ f x i _)));
        fits = e.1;
      }

  pub single_read : (r : Option ℕ) → NumberIs (eqb s.bit 0 && eqb s.bits 32) order image at s r → ReadAs (typed single_float order) image at s field (answer_at field (option_map stored.Single r))
  unfolding stored_as
  single_read None h = record { is = λ f x i. refuses _ _ _ _ (sym (fills_is _ _ _ f x i 32) ∙ h); fits = tt }
  single_read (Some n) h =
      record {
        is = λ f x i. admits _ _ _ _ (sym (fills_is _ _ _ f x i 32) ∙ h.0) (ap (λ m. accepted (single m)) (h.1 ∙ pattern_is _ _ _ f x i _));
        fits = tt;
      }

  pub double_read : (r : Option ℕ) → NumberIs (eqb s.bit 0 && eqb s.bits 64) order image at s r → ReadAs (typed double_float order) image at s field (answer_at field (option_map stored.Double r))
  unfolding stored_as
  double_read None h = record { is = λ f x i. refuses _ _ _ _ (sym (fills_is _ _ _ f x i 64) ∙ h); fits = tt }
  double_read (Some n) h =
      record {
        is = λ f x i. admits _ _ _ _ (sym (fills_is _ _ _ f x i 64) ∙ h.0) (ap (λ m. accepted (double m)) (h.1 ∙ pattern_is _ _ _ f x i _));
        fits = tt;
      }
