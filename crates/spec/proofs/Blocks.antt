-- A written block is read back by its fields.
-- Assumes nothing.
use Prim.Native.Nat.{ℕ, ◌+◌, ◌≤◌, ◌<◌}
use mathlib.Core.Path.{◌≡◌, refl, sym, ◌∙◌, ap}
use mathlib.Core.Bool.{Bool, true, false, cond}
use mathlib.Core.List.{List, [], ◌∷◌, ◌++◌, append-nil}
use mathlib.Core.Option.{Option, none}
use native.Mathlib.Omega.{arith}
use lib.Dec.{ltb}
use lib.ListN.{length, take, drop, length-append, length-drop, take-append-drop}
use lib.Seq.{take_at, drop-drop, take_all}
use Rattle.spec.specs.Bytes.{number, join, field, to_link, link_bytes}
use Rattle.spec.specs.Answer.{accepted}
use Rattle.spec.specs.Block.{Image, hd_kind, dg_kind, cg_kind, cn_kind, open_as, hd_written, dg_written, cg_written, cn_written, HdBlock, read_hd, write_hd, DgBlock, read_dg, write_dg, CgBlock, read_cg, write_cg, CnBlock, read_cn, write_cn}
use Rattle.spec.proofs.Places.{At, LinkFits, link_back, field_in, drop_past, number_2, number_4, open_at}

-- a link field that is read from these bytes
link_at : {field bytes : List ℕ} {l : Option ℕ} → field ≡ bytes → to_link (number bytes) ≡ l → to_link (number field) ≡ l
link_at e h = rw e h

-- ---- DG

pub record DgFits (dg : DgBlock) : Type 0 where
  pub next : LinkFits dg.next
  pub first_group : LinkFits dg.first_group
  pub trigger : LinkFits dg.trigger
  pub records : LinkFits dg.records
  pub mode : dg.mode < 65536

dg_back : (dg : DgBlock) → DgFits dg → read_dg (write_dg dg) ≡ dg
unfolding read_dg write_dg field
dg_back dg ok =
    λ i.
    record {
      next = link_back dg.next ok.next i;
      first_group = link_back dg.first_group ok.first_group i;
      trigger = link_back dg.trigger ok.trigger i;
      records = link_back dg.records ok.records i;
      mode = number_2 dg.mode ok.mode i;
    }

pub open_dg : (image : Image) (link_field p : ℕ) (dg : DgBlock) → DgFits dg → At image.bytes p (write_dg dg)
    → open_as dg_kind read_dg image link_field p ≡ accepted (record { place = p; size = dg_written; content = dg })
unfolding write_dg
open_dg image link_field p dg ok a =
    open_at dg_kind image link_field p 28 _ (omega arith) a read_dg dg refl (omega arith) (dg_back dg ok)

pub length_dg : (dg : DgBlock) → length (write_dg dg) ≡ dg_written
unfolding write_dg
length_dg dg = refl

-- ---- CG

pub record CgFits (cg : CgBlock) : Type 0 where
  pub next : LinkFits cg.next
  pub first_channel : LinkFits cg.first_channel
  pub comment : LinkFits cg.comment
  pub record_id : cg.record_id < 65536
  pub record_size : cg.record_size < 65536
  pub record_count : cg.record_count < 4294967296
  pub reduction : cg.reduction ≡ none

pub cond_same : (t : Bool) (l : Option ℕ) → cond t l l ≡ l
cond_same true l = refl
cond_same false l = refl

cg_back : (version n : ℕ) (cg : CgBlock) → CgFits cg → read_cg version (write_cg n cg) ≡ cg
unfolding read_cg write_cg field
cg_back version n cg ok =
    let reduction : (read_cg version (write_cg n cg)).reduction ≡ cg.reduction = rw ok.reduction (simp cond_same) in
    λ i.
    record {
      next = link_back cg.next ok.next i;
      first_channel = link_back cg.first_channel ok.first_channel i;
      comment = link_back cg.comment ok.comment i;
      record_id = number_2 cg.record_id ok.record_id i;
      record_size = number_2 cg.record_size ok.record_size i;
      record_count = number_4 cg.record_count ok.record_count i;
      reduction = reduction i;
    }

pub open_cg : (image : Image) (link_field p n : ℕ) (cg : CgBlock) → CgFits cg → At image.bytes p (write_cg n cg)
    → open_as cg_kind (read_cg image.version) image link_field p ≡ accepted (record { place = p; size = cg_written; content = cg })
unfolding write_cg
open_cg image link_field p n cg ok a =
    open_at cg_kind image link_field p 30 _ (omega arith) a (read_cg image.version) cg refl (omega arith) (cg_back image.version n cg ok)

pub length_cg : (n : ℕ) (cg : CgBlock) → length (write_cg n cg) ≡ cg_written
unfolding write_cg
length_cg n cg = refl

-- ---- CN

pub record CnFits (cn : CnBlock) : Type 0 where
  pub next : LinkFits cn.next
  pub conversion : LinkFits cn.conversion
  pub extension : LinkFits cn.extension
  pub dependency : LinkFits cn.dependency
  pub comment : LinkFits cn.comment
  pub main : length cn.fields.main ≡ 194
  pub added : length cn.fields.added ≡ 2
  pub long_name : LinkFits cn.long_name
  pub display_name : LinkFits cn.display_name

pub length_cn : (cn : CnBlock) → length cn.fields.main ≡ 194 → length cn.fields.added ≡ 2 → length (write_cn cn) ≡ cn_written
unfolding write_cn
length_cn cn m a = simp length-append (omega arith)

module _ (cn : CnBlock) (ok : CnFits cn) where
  cn_length : length (write_cn cn) ≡ cn_written
  cn_length = length_cn cn ok.main ok.added

  -- a field before byte 24
  cn_early : (n off : ℕ) → off + n ≤ 228 → field n off (write_cn cn) ≡ take n (drop off (write_cn cn))
  cn_early n off h = field_in n off (write_cn cn) (omega (arith, cn_length))

  -- a field after byte 217
  cn_late : (n off : ℕ) → 218 + off + n ≤ 228
      → field n (24 + (194 + off)) (write_cn cn) ≡ take n (drop off (link_bytes cn.long_name ++ (link_bytes cn.display_name ++ (cn.fields.added ++ []))))
  unfolding write_cn
  cn_late n off h =
      field_in n (24 + (194 + off)) (write_cn cn) (omega (arith, cn_length)) ∙ ap (take n) (sym (drop-drop (194 + off) 24 (write_cn cn)) ∙ drop_past cn.fields.main _ 194 off ok.main)

  cn_back : read_cn (write_cn cn) ≡ cn
  unfolding read_cn write_cn
  cn_back =
      λ i.
      record {
        next = link_at (cn_early 4 4 (omega arith)) (link_back cn.next ok.next) i;
        conversion = link_at (cn_early 4 8 (omega arith)) (link_back cn.conversion ok.conversion) i;
        extension = link_at (cn_early 4 12 (omega arith)) (link_back cn.extension ok.extension) i;
        dependency = link_at (cn_early 4 16 (omega arith)) (link_back cn.dependency ok.dependency) i;
        comment = link_at (cn_early 4 20 (omega arith)) (link_back cn.comment ok.comment) i;
        fields = record { main = (cn_early 194 24 (omega arith) ∙ take_at cn.fields.main _ 194 ok.main) i; added = (cn_late 2 8 (omega arith) ∙ take_at cn.fields.added [] 2 ok.added) i };
        long_name = link_at (cn_late 4 0 (omega arith)) (link_back cn.long_name ok.long_name) i;
        display_name = link_at (cn_late 4 4 (omega arith)) (link_back cn.display_name ok.display_name) i;
      }

  pub open_cn : (image : Image) (link_field p : ℕ) → At image.bytes p (write_cn cn) → open_as cn_kind read_cn image link_field p ≡ accepted (record { place = p; size = cn_written; content = cn })
  unfolding write_cn
  open_cn image link_field p a =
      open_at cn_kind image link_field p 228 _ (omega arith) a read_cn cn (omega (arith, cn_length)) (omega arith) cn_back

-- ---- HD

pub record HdFits (version : ℕ) (hd : HdBlock) : Type 0 where
  pub first_group : LinkFits hd.first_group
  pub comment : LinkFits hd.comment
  pub program : LinkFits hd.program
  pub plain : length hd.plain ≡ 146
  pub later : 164 + length hd.later ≡ hd_written version

pub length_hd : (version n : ℕ) (hd : HdBlock) → length hd.plain ≡ 146 → 164 + length hd.later ≡ hd_written version → length (write_hd version n hd) ≡ hd_written version
unfolding write_hd
length_hd version n hd p l = simp length-append (omega arith)

hd_small : (version : ℕ) → hd_written version ≤ 208
hd_small version = go (ltb version 320)
  where
    go : (t : Bool) → cond t 164 208 ≤ 208
    go true = omega arith
    go false = omega arith

-- parts of these lengths, one after the other
abbrev pieces : List ℕ → List ℕ → List (List ℕ)
pieces [] l = []
pieces (n ∷ ns) l = take n l ∷ pieces ns (drop n l)

abbrev sum : List ℕ → ℕ
sum [] = 0
sum (n ∷ ns) = n + sum ns

join_pieces : (ns l : List ℕ) → length l ≤ sum ns → join (pieces ns l) ≡ l
join_pieces [] l h = take_all 0 l h
join_pieces (n ∷ ns) l h =
    ap (λ r. take n l ++ r) (join_pieces ns (drop n l) (rw length-drop (omega arith))) ∙ take-append-drop n l

module _ (version n : ℕ) (hd : HdBlock) (ok : HdFits version hd) where
  hd_length : length (write_hd version n hd) ≡ hd_written version
  hd_length = length_hd version n hd ok.plain ok.later

  hd_early : (k off : ℕ) → off + k ≤ 164 → field k off (write_hd version n hd) ≡ take k (drop off (write_hd version n hd))
  hd_early k off h = field_in k off (write_hd version n hd) (omega (arith, hd_length, ok.later))

  hd_late : (k off : ℕ) → ltb version 320 ≡ false → 164 + off + k ≤ 208 → field k (18 + (146 + off)) (write_hd version n hd) ≡ take k (drop off hd.later)
  unfolding write_hd
  hd_late k off e h =
      let s : hd_written version ≡ 208 = rw e in
      field_in k (18 + (146 + off)) (write_hd version n hd) (omega (arith, hd_length))
      ∙ ap (take k) (sym (drop-drop (146 + off) 18 (write_hd version n hd)) ∙ drop_past hd.plain _ 146 off ok.plain ∙ ap (drop off) (append-nil hd.later))

  hd_later : (t : Bool) → ltb version 320 ≡ t → (read_hd version (write_hd version n hd)).later ≡ hd.later
  unfolding read_hd
  hd_later true e =
      let s : hd_written version ≡ 164 = rw e in
      rw e (take_all 0 hd.later (omega (arith, ok.later)))
  hd_later false e =
      let s : hd_written version ≡ 208 = rw e in
      rw (e, hd_late 8 0 e (omega arith), hd_late 2 8 e (omega arith), hd_late 2 10 e (omega arith), hd_late 32 12 e (omega arith), ← drop-drop 2 8 hd.later, ← drop-drop 4 8 hd.later, ← drop-drop 2 2 (drop 8 hd.later))
      (join_pieces (8 ∷ 2 ∷ 2 ∷ 32 ∷ []) hd.later (omega (arith, ok.later)))

  hd_back : read_hd version (write_hd version n hd) ≡ hd
  unfolding read_hd write_hd
  hd_back =
      λ i.
      record {
        first_group = link_at (hd_early 4 4 (omega arith)) (link_back hd.first_group ok.first_group) i;
        comment = link_at (hd_early 4 8 (omega arith)) (link_back hd.comment ok.comment) i;
        program = link_at (hd_early 4 12 (omega arith)) (link_back hd.program ok.program) i;
        plain = (hd_early 146 18 (omega arith) ∙ take_at hd.plain _ 146 ok.plain) i;
        later = hd_later (ltb version 320) refl i;
      }

  pub open_hd : (image : Image) (link_field p : ℕ) → At image.bytes p (write_hd version n hd)
      → open_as hd_kind (read_hd version) image link_field p ≡ accepted (record { place = p; size = hd_written version; content = hd })
  unfolding write_hd
  open_hd image link_field p a =
      open_at hd_kind image link_field p (hd_written version) _ (omega (arith, hd_small version)) a (read_hd version) hd (omega (arith, hd_length)) (omega (arith, ok.later)) hd_back
