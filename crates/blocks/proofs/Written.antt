-- The bytes of the blocks are those that `spec` has for them.
-- Assumes nothing.
use Prim.Native.Nat.{ℕ}
use mathlib.Core.Path.{◌≡◌}
use mathlib.Core.List.{append_assoc, append-nil}
use mathlib.Core.Option.{none}
use Rattle.spec.specs.Bytes.{target}
use Rattle.spec.specs.Block.{hd_written, DgBlock, write_dg, CgBlock, write_cg, CnBlock, write_cn, HdBlock, write_hd}
use Rattle.blocks.specs.Blocks.{dg_bytes, cg_bytes, cn_bytes, hd_bytes}

pub dg_written_lem : (dg : DgBlock) → dg.trigger ≡ none → dg.mode ≡ 0
    → write_dg dg ≡ dg_bytes (target dg.next) (target dg.first_group) (target dg.records)
unfolding write_dg dg_bytes
dg_written_lem dg t m = rw (t, m)

pub cg_written_lem : (n : ℕ) (cg : CgBlock) → cg.next ≡ none → cg.record_id ≡ 0 → cg.reduction ≡ none
    → write_cg n cg ≡ cg_bytes (target cg.first_channel) (target cg.comment) n cg.record_size cg.record_count
unfolding write_cg cg_bytes
cg_written_lem n cg x i r = rw (x, i, r)

pub cn_written_lem : (cn : CnBlock) → cn.dependency ≡ none
    → write_cn cn
    ≡ cn_bytes (target cn.next) (target cn.conversion) (target cn.extension) (target cn.comment) cn.fields.main (target cn.long_name) (target cn.display_name) cn.fields.added
unfolding write_cn cn_bytes
cn_written_lem cn d = rw d (simp (append_assoc, append-nil))

pub hd_written_lem : (version n : ℕ) (hd : HdBlock)
    → write_hd version n hd
    ≡ hd_bytes (hd_written version) (target hd.first_group) (target hd.comment) (target hd.program) n hd.plain hd.later
unfolding write_hd hd_bytes
hd_written_lem version n hd = simp (append_assoc, append-nil)
