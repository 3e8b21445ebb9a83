-- What the code's tests say of a channel group.
-- Assumes nothing.
use Prim.Native.Nat.{ℕ, ◌+◌}
use mathlib.Core.Path.{◌≡◌, refl}
use mathlib.Core.Bool.{Bool}
use Rattle.std.specs.Prelude.{Result, Ok, Err}
use Rattle.refusal.specs.declared.Refusal.{Refusal}
use Rattle.refusal.specs.Refused.{number_of, done}
use Rattle.walk.proofs.Channels.{then_left, then_right}
use Rattle.spec.specs.Bytes.{u16, u32}
use Rattle.spec.specs.Answer.{refused}
use Rattle.spec.specs.Block.{Image, read_cg}
use Rattle.image.specs.declared.Span.{Span}
use Rattle.image.specs.Spans.{block_in, opened_as}
use Rattle.walk.specs.Steps.{group_head}
use Rattle.walk.specs.Lists.{channels_from, group_at}

-- ---- one group

module _ (image : Image) (mode : ℕ) (known : Bool) (n : ℕ) (b : Span) {x : Result (Unit {0}) Refusal}
    (d : done x ≡ group_head image mode known (opened_as (read_cg image.version) image.bytes b)) where
  pub group_stop : {e : Refusal} → x ≡ Err e → refused (number_of e.reason) e.place ≡ group_at image mode known n b
  unfolding group_at
  group_stop f = then_left d _ f

  pub group_go : {u : Unit {0}} → x ≡ Ok u
      → channels_from image (u16 20 (block_in image.bytes b)) (b.at + 8) (u32 8 (block_in image.bytes b)) n ≡ group_at image mode known n b
  unfolding group_at
  group_go f = then_right d f refl
