-- A channel in a record of its group: where its bits stand, and its sample.
-- Assumes nothing.
use Prim.Native.Nat.{ℕ, ◌+◌, ◌*◌, ◌≤◌}
use mathlib.Core.Path.{◌≡◌, refl, ◌∙◌, ap}
use mathlib.Core.Bool.{true}
use mathlib.Core.List.{List}
use native.Mathlib.Omega.{arith}
use lib.Dec.{leb}
use lib.ListN.{take, drop}
use lib.Seq.{drop-drop}
use borrow.Author.Tests.{eq-eqb, ne_eqb, leb-true}
use Rattle.answers.specs.Readings.{Answer, refused}
use Rattle.answers.specs.Samples.{Fields, Logged, start_bit, bit_count, added_offset, bits_fit, byte_offset, byte_count, Stored, type_of, stored_as, stored_sample}
use Rattle.answers.proofs.Laws.{refuses, admits}
use Rattle.reading.proofs.Numbers.{above, drop_take}
use Rattle.reading.specs.declared.Signal.{Signal}
use Rattle.reading.specs.declared.Channel.{Channel}
use Rattle.reading.specs.Steps.{the_channel, SignalIs}
use Rattle.stored.specs.Stored.{BitsInside, BitsOf, RowAt, LoggedAt}

-- the bytes of a signal lie in a record of its group
bytes_fit : (size : ℕ) (f : Fields) → (bit_count f ≡ 0 → ⊥) → bits_fit size f ≡ true → byte_offset f + byte_count f ≤ size
bytes_fit size f d e =
    let t : leb (start_bit f + 8 * added_offset f + bit_count f) (8 * size) ≡ true = rw (ne_eqb (bit_count f) 0 d) at e in
    let l = leb-true (start_bit f + 8 * added_offset f + bit_count f) (8 * size) t in
    omega arith

-- a part of a part of the image
part_of_part : (image : List ℕ) (place size from n : ℕ) → from + n ≤ size → take n (drop from (take size (drop place image))) ≡ take n (drop (place + from) image)
part_of_part image place size from n h =
    drop_take from n size (drop place image) h ∙ ap (take n) (drop-drop from place image)

module _ (image : List ℕ) (c : Channel) (place size : ℕ) (h : RowAt image c place size) (s : Signal) (is : SignalIs (the_channel c).fields s) where
  pub in_record : (s.bits ≡ 0 → ⊥) → byte_offset (the_channel c).fields + byte_count (the_channel c).fields ≤ size
  in_record d = bytes_fit size (the_channel c).fields (λ e. d (is.bits ∙ e)) h.bits

  module _ (d : s.bits ≡ 0 → ⊥) where
    pub room : BitsInside image (place + s.byte) s
    room =
        let l = in_record d in
        record { bit = omega (arith, is.bit); some = omega (arith, above _ _ refl d); few = is.few; inside = omega (arith, l, h.inside, is.byte, is.bit, is.bits) }

    pub bits_of : (x : Logged) → LoggedAt image place size x → BitsOf image (place + s.byte) s (the_channel c).fields x
    bits_of x l =
        record {
          signal = is;
          place = omega (arith, l.begins, is.byte);
          bytes = rw (l.content, is.byte) (part_of_part image place size (byte_offset (the_channel c).fields) (byte_count (the_channel c).fields) (in_record d));
        }

-- no bits, or some
module _ (f : Fields) (field : ℕ) (x : Logged) where
  pub no_bits : bit_count f ≡ 0 → refused 15 field ≡ stored_sample f field x
  unfolding stored_sample
  no_bits e = refuses _ _ _ _ (rw (eq-eqb (bit_count f) 0 e))

  pub some_bits : {a : Answer Stored} → (bit_count f ≡ 0 → ⊥) → a ≡ stored_as (type_of f).encoding (type_of f).order f field x → a ≡ stored_sample f field x
  unfolding stored_sample
  some_bits d e = admits _ _ _ _ (rw (ne_eqb (bit_count f) 0 d)) e
