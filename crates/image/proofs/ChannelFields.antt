-- The numbers of a channel, read from its block.
-- Assumes nothing.
use Prim.Native.Nat.{ℕ, ◌+◌, ◌≤◌}
use mathlib.Core.Path.{◌≡◌, sym, ◌∙◌, ap}
use mathlib.Core.List.{List}
use native.Mathlib.Omega.{arith}
use lib.ListN.{length, take, drop, length-drop}
use lib.Seq.{drop-drop, length-take-le}
use Rattle.spec.specs.Bytes.{number, field, u16}
use Rattle.spec.specs.Block.{read_fields, channel_type, start_bit, bit_count, data_type}
use Rattle.spec.proofs.Places.{field_in}
use Rattle.image.specs.declared.Span.{Span}
use Rattle.image.specs.Spans.{block_in, Holds}
use Rattle.image.proofs.Fields.{block_length, drop_take}

-- a number of bytes 24 to 217, read from the block
main_u16 : (off : ℕ) (block : List ℕ) → off + 2 ≤ 194 → 218 ≤ length block → u16 (24 + off) block ≡ u16 off (read_fields block).main
main_u16 off block o l =
    let e : 24 + off + 2 ≤ length block = omega arith in
    let f : length (take 194 (drop 24 block)) ≡ 194 = length-take-le 194 (drop 24 block) (rw length-drop (omega arith)) in
    ap number
    (field_in 2 (24 + off) block e
    ∙ ap (take 2) (sym (drop-drop off 24 block))
    ∙ sym (drop_take off 2 194 (drop 24 block) o)
    ∙ sym (field_in 2 off (take 194 (drop 24 block)) (omega (arith, f)))
    ∙ ap (field 2 off) (sym (field_in 194 24 block (omega arith))))

module _ (image : List ℕ) (cn : Span) (h : Holds 218 image cn) where
  long : 218 ≤ length (block_in image cn)
  long = omega (arith, block_length image cn h.inside, h.least)

  pub type_is : u16 24 (block_in image cn) ≡ channel_type (read_fields (block_in image cn))
  type_is = main_u16 0 (block_in image cn) (omega arith) long

  pub start_is : u16 186 (block_in image cn) ≡ start_bit (read_fields (block_in image cn))
  start_is = main_u16 162 (block_in image cn) (omega arith) long

  pub bits_is : u16 188 (block_in image cn) ≡ bit_count (read_fields (block_in image cn))
  bits_is = main_u16 164 (block_in image cn) (omega arith) long

  pub data_is : u16 190 (block_in image cn) ≡ data_type (read_fields (block_in image cn))
  data_is = main_u16 166 (block_in image cn) (omega arith) long
