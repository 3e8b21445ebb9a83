-- A channel's bodies, their places and its bytes.
-- Assumes nothing.
use Prim.Native.Nat.{ℕ, ◌+◌, ◌≤◌}
use mathlib.Core.Path.{◌≡◌, refl, sym, ◌∙◌, ap, ap₂}
use mathlib.Core.List.{List, [], ◌∷◌, ◌++◌, append_assoc, append-nil}
use mathlib.Core.Option.{Option, some}
use native.Mathlib.Omega.{arith}
use Rattle.std.proofs.Math.Logic.{∥∥₁_elim}
use Rattle.std.specs.Coded.{codes}
use lib.ListN.{length, length-append}
use Rattle.answers.specs.Readings.{target, cc_kind, ce_kind, tx_kind, join}
use Rattle.answers.specs.Readings.{Channel as ReadChannel}
use Rattle.answers.specs.Copies.{body_length, body_bytes, link_to_first, channel_length, channel_bytes, channels_bytes, cn_of}
use Rattle.blocks.specs.Blocks.{cn_bytes}
use Rattle.blocks.proofs.Written.{cn_written_lem}
use Rattle.write.specs.Write.{Wrote, then, wrote_as, filled}
use Rattle.answers.proofs.Laws.{length_cn, length_channel}
use Rattle.reading.specs.declared.Carried.{Carried}
use Rattle.std.specs.Prelude.{is_some}
use Rattle.reading.specs.declared.Channel.{Channel}
use Rattle.reading.specs.Steps.{the_channel, FieldsAre}
use Rattle.reading.proofs.Formed.{channel_formed}
use Rattle.put_channels.specs.declared.Bodies.{Bodies}
use Rattle.put_channels.specs.declared.Places.{Places}
use Rattle.put_channels.specs.declared.Layout.{Layout}
use Rattle.put_channels.specs.Written.{link_if, written_bytes}
use Rattle.put_channels.specs.Channels.{BodiesAre, PlacesAre, bodies_bytes, block_as, channel_as}
use Rattle.put_channels.proofs.Written.{written_length_lem, written_link_lem, written_bytes_lem, written_as}

module _ (b : Bodies) (c : ReadChannel) (h : BodiesAre b c) where
  -- the places by the lengths of the channel's bodies
  pub record PlacesBy (at : ℕ) (p : Places) : Type 0 where
    pub ce : p.ce ≡ at + 228 + body_length c.conversion
    pub tx : p.tx ≡ at + 228 + body_length c.conversion + body_length c.extension
    pub long : p.long ≡ at + 228 + body_length c.conversion + body_length c.extension + body_length c.comment
    pub display : p.display ≡ at + 228 + body_length c.conversion + body_length c.extension + body_length c.comment + body_length c.long_name
    pub end : p.end ≡ at + channel_length c

  pub places_by : (at : ℕ) (p : Places) → PlacesAre at b p → PlacesBy at p
  unfolding channel_length
  places_by at p q =
      let l₁ = written_length_lem b.conversion h.conversion in
      let l₂ = written_length_lem b.extension h.extension in
      let l₃ = written_length_lem b.comment h.comment in
      let l₄ = written_length_lem b.long h.long in
      let l₅ = written_length_lem b.display h.display in
      let e₁ : p.ce ≡ at + 228 + body_length c.conversion = q.ce ∙ ap₂ ◌+◌ q.cc l₁ in
      let e₂ : p.tx ≡ at + 228 + body_length c.conversion + body_length c.extension = q.tx ∙ ap₂ ◌+◌ e₁ l₂ in
      let e₃ : p.long ≡ at + 228 + body_length c.conversion + body_length c.extension + body_length c.comment = q.long ∙ ap₂ ◌+◌ e₂ l₃ in
      let e₄ : p.display ≡ at + 228 + body_length c.conversion + body_length c.extension + body_length c.comment + body_length c.long_name = q.display ∙ ap₂ ◌+◌ e₃ l₄ in
      record { ce = e₁; tx = e₂; long = e₃; display = e₄; end = q.end ∙ ap₂ ◌+◌ e₄ l₅ ∙ omega arith }

  pub bodies_bytes_lem : bodies_bytes b ≡ (((body_bytes cc_kind c.conversion ++ body_bytes ce_kind c.extension) ++ body_bytes tx_kind c.comment) ++ body_bytes tx_kind c.long_name) ++ body_bytes tx_kind c.display_name
  unfolding bodies_bytes
  bodies_bytes_lem =
      ap₂ ◌++◌
      (ap₂ ◌++◌ (ap₂ ◌++◌ (ap₂ ◌++◌ (written_bytes_lem cc_kind b.conversion h.conversion) (written_bytes_lem ce_kind b.extension h.extension)) (written_bytes_lem tx_kind b.comment h.comment)) (written_bytes_lem tx_kind b.long h.long))
      (written_bytes_lem tx_kind b.display h.display)

pub layout_end : (l : Layout) → l.places.end ≡ l.at + channel_length (the_channel l.channel)
layout_end l = ∥∥₁_elim l.held (hlevel codes) (λ h. (places_by l.bodies _ h l.at l.places l.placed).end)

-- the bytes of a channel by the definition
channel_as_lem : (at : ℕ) (next : Option ℕ) (c : ReadChannel) → channel_bytes at next c ≡ channel_as at (target next) c
unfolding channel_bytes channel_as block_as
channel_as_lem at next c =
    ap₂ ◌++◌ (cn_written_lem (cn_of at next c) refl) (flat (body_bytes cc_kind c.conversion) (body_bytes ce_kind c.extension) (body_bytes tx_kind c.comment) (body_bytes tx_kind c.long_name) (body_bytes tx_kind c.display_name))
  where
    flat : (v w x y z : List ℕ) → join (v ∷ w ∷ x ∷ y ∷ z ∷ []) ≡ (((v ++ w) ++ x) ++ y) ++ z
    flat v w x y z = rw (append-nil z, append_assoc, append_assoc, append_assoc)

-- ---- writing

module _ (at : ℕ) (b : Bodies) (p : Places) (q : PlacesAre at b p) where
  pub bodies_written : {o₀ o₁ o₂ o₃ o₄ o₅ : List ℕ}
      → Wrote o₀ o₁ p.cc (written_bytes 67 67 b.conversion)
      → Wrote o₁ o₂ p.ce (written_bytes 67 69 b.extension)
      → Wrote o₂ o₃ p.tx (written_bytes 84 88 b.comment)
      → Wrote o₃ o₄ p.long (written_bytes 84 88 b.long)
      → Wrote o₄ o₅ p.display (written_bytes 84 88 b.display)
      → Wrote o₀ o₅ (at + 228) (bodies_bytes b)
  unfolding bodies_bytes
  bodies_written w₁ w₂ w₃ w₄ w₅ =
      let l₁ = written_as 67 67 b.conversion in
      let l₂ = written_as 67 69 b.extension in
      let l₃ = written_as 84 88 b.comment in
      let l₄ = written_as 84 88 b.long in
      wrote_as
      (then
      (then
      (then
      (then w₁ w₂ (omega (arith, q.ce, l₁)))
      w₃ (rw length-append (omega (arith, q.ce, q.tx, l₁, l₂))))
      w₄ (rw (length-append, length-append) (omega (arith, q.ce, q.tx, q.long, l₁, l₂, l₃))))
      w₅ (rw (length-append, length-append, length-append) (omega (arith, q.ce, q.tx, q.long, q.display, l₁, l₂, l₃, l₄))))
      q.cc refl

module _ (at : ℕ) (b : Bodies) (p : Places) (c : ReadChannel) (h : BodiesAre b c) (q : PlacesAre at b p) where
  pub block_written : (next cc ce tx long display : ℕ) (r : Carried)
      → cc ≡ link_if (is_some b.conversion) p.cc
      → ce ≡ link_if (is_some b.extension) p.ce
      → tx ≡ link_if (is_some b.comment) p.tx
      → long ≡ link_if (is_some b.long) p.long
      → display ≡ link_if (is_some b.display) p.display
      → FieldsAre c.fields r
      → cn_bytes next cc ce tx r.main.now long display (filled r.later.now 2) ≡ block_as at next c
  unfolding block_as
  block_written next cc ce tx long display t e₁ e₂ e₃ e₄ e₅ m =
      let r = places_by b c h at p q in
      let f₁ = e₁ ∙ written_link_lem p.cc b.conversion h.conversion in
      let f₂ = e₂ ∙ written_link_lem p.ce b.extension h.extension in
      let f₃ = e₃ ∙ written_link_lem p.tx b.comment h.comment in
      let f₄ = e₄ ∙ written_link_lem p.long b.long h.long in
      let f₅ = e₅ ∙ written_link_lem p.display b.display h.display in
      rw (f₁, f₂, f₃, f₄, f₅, q.cc, r.ce, r.tx, r.long, r.display, sym m.main, sym m.added)

-- ---- a channel of an accepted image: its block and its bytes have their lengths

module _ (x : Channel) where
  block_length : (at next : ℕ) → length (block_as at next (the_channel x)) ≡ 228
  unfolding block_as
  block_length at next =
      let cn = cn_of at (some next) (the_channel x) in
      channel_formed x λ size ok. ap length (sym (cn_written_lem cn refl)) ∙ length_cn cn ok.fields.main ok.fields.added

  pub channel_written : (at next : ℕ) (b : Bodies) → BodiesAre b (the_channel x) → {o₀ o₁ o₂ : List ℕ}
      → Wrote o₀ o₁ at (block_as at next (the_channel x)) → Wrote o₁ o₂ (at + 228) (bodies_bytes b) → Wrote o₀ o₂ at (channel_as at next (the_channel x))
  unfolding channel_as
  channel_written at next b h w₁ w₂ =
      then w₁ (wrote_as w₂ refl (bodies_bytes_lem b (the_channel x) h)) (omega (arith, block_length at next))

  pub channel_length_lem : (at : ℕ) (next : Option ℕ) → length (channel_as at (target next) (the_channel x)) ≡ channel_length (the_channel x)
  channel_length_lem at next =
      channel_formed x λ size ok. ap length (sym (channel_as_lem at next (the_channel x))) ∙ length_channel size at next (the_channel x) ok

-- the first of a list of channels, and the rest behind it
pub channels_cons : (p q : ℕ) (c : ReadChannel) (cs : List ReadChannel) → q ≡ p + channel_length c → channels_bytes p (c ∷ cs) ≡ channel_as p (target (link_to_first q cs)) c ++ channels_bytes q cs
unfolding channels_bytes
channels_cons p q c cs e = rw e (ap (λ xs. xs ++ channels_bytes (p + channel_length c) cs) (channel_as_lem p (link_to_first (p + channel_length c) cs) c))

pub channels_nil : (p : ℕ) → channels_bytes p [] ≡ []
unfolding channels_bytes
channels_nil p = refl

pub channel_long : (c : ReadChannel) → 228 ≤ channel_length c
unfolding channel_length
channel_long c = omega arith
