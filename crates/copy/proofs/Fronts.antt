-- The front of a copy, and the whole of it.
-- Assumes nothing.
use Prim.Native.Nat.{ℕ, ◌+◌, ◌-◌}
use mathlib.Core.Path.{◌≡◌, refl, sym, ◌∙◌, ap}
use mathlib.Core.List.{List, [], ◌++◌, append_assoc, append-nil}
use native.Mathlib.Omega.{arith}
use lib.ListN.{length, length-append}
use Rattle.answers.specs.Readings.{tx_kind, pr_kind, Reading, version, hd_written}
use Rattle.answers.specs.Copies.{body_length, body_bytes, groups_bytes, canonical_copy, hd_of, write_hd}
use Rattle.answers.proofs.Laws.{length_body, length_hd}
use Rattle.blocks.specs.Blocks.{hd_bytes}
use Rattle.blocks.proofs.Written.{hd_written_lem}
use Rattle.write.specs.Write.{Wrote, then, wrote_as, filled}
use lib.Seq.{length-take-le}
use Rattle.reading.specs.declared.Carried.{Carried}
use Rattle.reading.specs.declared.File.{File}
use Rattle.std.specs.Prelude.{is_some, not, nat_eq}
use Rattle.std.proofs.Math.Logic.{∥∥₁_elim}
use Rattle.std.proofs.Math.Bridge.{le_prop}
use Rattle.std.specs.Coded.{codes}
use Rattle.reading.specs.Steps.{reading_of, HeaderIs}
use Rattle.reading.proofs.Formed.{file_formed}
use Rattle.reading.proofs.Promise.{file_long, file_ident}
use Rattle.put_channels.specs.Written.{written_bytes, link_if}
use Rattle.put_channels.proofs.Written.{written_link_lem, written_bytes_lem}
use Rattle.put_groups.proofs.Groups.{link_if_lem}
use Rattle.copy.specs.declared.Front.{Front}
use Rattle.copy.specs.Copying.{FrontIs, id_hd_bytes}

pub ident_long : (f : File) → length (reading_of f).ident ≡ 64
ident_long f =
    ∥∥₁_elim f.stands (hlevel (codes, le_prop)) λ s.
    ap length (file_ident f.image.now f.hd s) ∙ length-take-le 64 f.image.now (file_long f.image.now f.hd s)

-- ---- HD

module _ (r : Reading) (t : Front) (s : FrontIs t r) where
  pub header_as : (first tx pr count : ℕ) (p : Carried)
      → first ≡ link_if (not (nat_eq count 0)) t.first
      → tx ≡ link_if (is_some t.comment) t.tx
      → pr ≡ link_if (is_some t.program) t.pr
      → count ≡ length r.groups
      → HeaderIs r p
      → hd_bytes t.size first tx pr count p.main.now (filled p.later.now (t.size - 164)) ≡ write_hd (version r) (length r.groups) (hd_of r)
  header_as first tx pr count p e₁ e₂ e₃ e₄ h =
      let f₂ = e₂ ∙ written_link_lem t.tx t.comment s.comment in
      let f₃ = e₃ ∙ written_link_lem t.pr t.program s.program in
      rw (e₁, f₂, f₃, e₄, s.tx, s.pr, s.first, s.size, sym h.plain, sym h.later, link_if_lem)
      (sym (hd_written_lem (version r) (length r.groups) (hd_of r)))

-- ---- writing

pub front_written : (f : File) {o₀ o₁ o₂ : List ℕ} {h : List ℕ}
    → h ≡ write_hd (version (reading_of f)) (length (reading_of f).groups) (hd_of (reading_of f))
    → Wrote o₀ o₁ 0 (reading_of f).ident → Wrote o₁ o₂ 64 h → Wrote o₀ o₂ 0 (id_hd_bytes (reading_of f))
unfolding id_hd_bytes
front_written f e w₁ w₂ = then w₁ (wrote_as w₂ refl e) (omega (arith, ident_long f))

pub file_written : (f : File) (t : Front) → FrontIs t (reading_of f) → {o₀ o₁ o₂ o₃ o₄ : List ℕ}
    → Wrote o₀ o₁ 0 (id_hd_bytes (reading_of f))
    → Wrote o₁ o₂ t.tx (written_bytes 84 88 t.comment)
    → Wrote o₂ o₃ t.pr (written_bytes 80 82 t.program)
    → Wrote o₃ o₄ t.first (groups_bytes t.first (reading_of f).groups)
    → Wrote o₀ o₄ 0 (canonical_copy (reading_of f))
unfolding id_hd_bytes canonical_copy
file_written f t s w₁ w₂ w₃ w₄ =
    let r = reading_of f in
    let l₁ = ident_long f in
    let l₂ = file_formed f λ ok. length_hd (version r) (length r.groups) (hd_of r) ok.plain ok.later in
    let l₃ = length_body tx_kind r.comment in
    let l₄ = length_body pr_kind r.program in
    wrote_as
    (then
    (then
    (then w₁ (wrote_as w₂ refl (written_bytes_lem tx_kind t.comment s.comment)) (rw length-append (omega (arith, s.tx, l₁, l₂))))
    (wrote_as w₃ refl (written_bytes_lem pr_kind t.program s.program)) (rw (length-append, length-append) (omega (arith, s.pr, l₁, l₂, l₃))))
    (wrote_as w₄ refl (ap (λ p. groups_bytes p r.groups) s.first)) (rw (length-append, length-append, length-append) (omega (arith, s.first, l₁, l₂, l₃, l₄))))
    refl
    (flat r.ident (write_hd (version r) (length r.groups) (hd_of r)) (body_bytes tx_kind r.comment) (body_bytes pr_kind r.program) (groups_bytes (64 + hd_written (version r) + body_length r.comment + body_length r.program) r.groups))
  where
    flat : (v w x y z : List ℕ) → (((v ++ w) ++ x) ++ y) ++ z ≡ v ++ (w ++ (x ++ (y ++ (z ++ []))))
    flat v w x y z = rw (append-nil z, append_assoc, append_assoc, append_assoc)
