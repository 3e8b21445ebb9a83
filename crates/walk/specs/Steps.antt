-- The steps of a channel and of a channel group's head, as the code takes them.
-- Assumes nothing.
use Rattle.std.specs.Prelude.{ℕ, ◌+◌, Bool, not, ◌&&◌, ◌||◌, leb, eqb}
use Rattle.spec.specs.Bytes.{is_nil}
use Rattle.spec.specs.Answer.{Answer, refused, accepted, require, passed}
use Rattle.spec.specs.Block.{Image, Opened, CgBlock, CnBlock, ce_kind, tx_kind, body_at}
use Rattle.spec.specs.Walk.{conversion_at, size_allowed}

-- one step, then another: the first refusal of the two
infixr 25 ◌then◌
unfoldable pub ◌then◌ : {A : Type 0} → Answer (Unit {0}) → Answer A → Answer A
refused n p then m = refused n p
accepted u then m = m

-- what a channel links to, up to its comment
unfoldable pub bodies_first : Image → Opened CnBlock → Answer (Unit {0})
bodies_first image cn =
    passed (conversion_at image cn.place cn.content.conversion)
    then passed (body_at ce_kind image (cn.place + 12) cn.content.extension)
    then require (is_nil cn.content.dependency) 6 (cn.place + 16)
    then passed (body_at tx_kind image (cn.place + 20) cn.content.comment)

-- and behind its fields
unfoldable pub bodies_last : Image → Opened CnBlock → Answer (Unit {0})
bodies_last image cn =
    passed (body_at tx_kind image (cn.place + 218) cn.content.long_name)
    then passed (body_at tx_kind image (cn.place + 222) cn.content.display_name)

-- ---- a channel group

-- in modes 1 and 2 an ID is at most 255 and new
abbrev pub id_passes : ℕ → ℕ → Bool → Bool
id_passes mode id known = eqb mode 0 || leb id 255 && not known

-- the tests of a group before its channels; known: whether its ID was used before
unfoldable pub group_head : Image → ℕ → Bool → Opened CgBlock → Answer (Unit {0})
group_head image mode known cg =
    require (is_nil cg.content.reduction) 6 (cg.place + 26)
    then require (id_passes mode cg.content.record_id known) 8 (cg.place + 16)
    then passed (body_at tx_kind image (cg.place + 12) cg.content.comment)
    then require (size_allowed cg.content) 10 (cg.place + 20)
