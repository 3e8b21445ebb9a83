-- A step of the walk over the channels of a group, in an accepted image.
-- Assumes nothing.
use Prim.Native.Nat.{ℕ, zero, suc, ◌+◌}
use mathlib.Core.Path.{◌≡◌, refl}
use mathlib.Core.List.{List, [], ◌∷◌}
use mathlib.Core.Option.{Option, some}
use Rattle.spec.specs.Bytes.{u32, to_link}
use Rattle.spec.specs.Answer.{accepted}
use Rattle.spec.specs.Block.{Image, cn_kind, cc_kind, ce_kind, tx_kind, opening, body_at, Opened, CnBlock, read_cn}
use Rattle.spec.specs.Found.{FoundChannel}
use Rattle.spec.specs.Walk.{conversion_at, channel_at, channel_list}
use Rattle.spec.proofs.Answers.{stop, Gives, gives, bind, anything}
use Rattle.image.specs.declared.Span.{Span}
use Rattle.image.specs.declared.Block.TheVariants.{Shut}
use Rattle.refusal.specs.declared.Reason.{Reason}
use Rattle.image.specs.Spans.{block_of, block_in, opened_as}
use Rattle.image.proofs.Blocks.{not_nil, Stands, open_shut, open_open}
use Rattle.position.proofs.Lists.{self, gives_step, not_both}

pub record ChannelParts (image : Image) (cn : Opened CnBlock) (c : FoundChannel) : Type 0 where
  pub block : c.block ≡ cn
  pub conversion : body_at cc_kind image (cn.place + 8) cn.content.conversion ≡ accepted c.conversion
  pub extension : body_at ce_kind image (cn.place + 12) cn.content.extension ≡ accepted c.extension
  pub comment : body_at tx_kind image (cn.place + 20) cn.content.comment ≡ accepted c.comment
  pub long_name : body_at tx_kind image (cn.place + 218) cn.content.long_name ≡ accepted c.long_name
  pub display_name : body_at tx_kind image (cn.place + 222) cn.content.display_name ≡ accepted c.display_name

module _ (image : Image) where
  conversion_gives : (p : ℕ) (l : Option ℕ) → Gives (conversion_at image p l) (λ x. body_at cc_kind image (p + 8) l ≡ accepted x)
  unfolding conversion_at
  conversion_gives p l = bind _ (self _) λ x e. bind _ (anything _) λ _ _. gives _ e

  channel_gives : (size : ℕ) (cn : Opened CnBlock) → Gives (channel_at image size cn) (ChannelParts image cn)
  unfolding channel_at
  channel_gives size cn =
      bind _ (conversion_gives cn.place cn.content.conversion) λ conversion e₁.
      bind _ (self _) λ extension e₂.
      bind _ (anything _) λ _ _.
      bind _ (self _) λ comment e₃.
      bind _ (anything _) λ _ _.
      bind _ (self _) λ long_name e₄.
      bind _ (self _) λ display_name e₅.
      gives _ (record { block = refl; conversion = e₁; extension = e₂; comment = e₃; long_name = e₄; display_name = e₅ })

  -- the first of a list of channels, whose block is in b, and where it goes on
  pub record ChannelNext (size : ℕ) (b : Span) (cs : List FoundChannel) : Type 0 where
    pub channel : FoundChannel
    pub more : List FoundChannel
    pub is : cs ≡ channel ∷ more
    pub parts : ChannelParts image (opened_as read_cn image.bytes b) channel
    pub left : ℕ
    pub field : ℕ
    pub onwards : channel_list image left size field (to_link (u32 4 (block_in image.bytes b))) ≡ accepted more

  pub no_channels_lem : (left size field l : ℕ) {cs : List FoundChannel} → l ≡ 0 → channel_list image left size field (to_link l) ≡ accepted cs → cs ≡ []
  unfolding channel_list
  no_channels_lem zero size field l e h = let h' = rw e at h in cc
  no_channels_lem (suc left) size field l e h = let h' = rw e at h in cc

  module _ (size field l : ℕ) (h : l ≡ 0 → ⊥) where
    pub channel_opens : (left : ℕ) {cs : List FoundChannel} → channel_list image left size field (to_link l) ≡ accepted cs → {r : Reason} → Shut r ≡ block_of l (opening cn_kind image l) → ⊥
    unfolding channel_list
    channel_opens zero e s = not_both (rw (not_nil l h) at e) refl
    channel_opens (suc left) e s = not_both (rw (not_nil l h) at e) (stop _ (open_shut cn_kind read_cn image field l s))

    list_gives : (left : ℕ) (b : Span) → Stands cn_kind image l b → Gives (channel_list image (suc left) size field (some l)) (ChannelNext size b)
    unfolding channel_list read_cn
    list_gives left b s =
        gives_step _ (open_open cn_kind read_cn image field l b s)
        (bind _ (channel_gives size (opened_as read_cn image.bytes b)) λ channel parts.
        bind _ (self _) λ more e.
        gives _ (record { channel = channel; more = more; is = refl; parts = parts; left = left; field = l + 4; onwards = e }))

    pub channel_next : (left : ℕ) (b : Span) {cs : List FoundChannel} → Stands cn_kind image l b → channel_list image left size field (to_link l) ≡ accepted cs → ChannelNext size b cs
    unfolding channel_list
    channel_next zero b s e = absurd (not_both (rw (not_nil l h) at e) refl)
    channel_next (suc left) b s e = (list_gives left b s).given _ (rw (not_nil l h) at e)
