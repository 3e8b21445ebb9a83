-- The sample reduction link of a CG counts from version 330 on; docs/RULES.md, 2.5. By an earlier rule it counted in every version.
-- That rule stands here alone, and no call rests on it; what was accepted by it is accepted, and copied, as it was. Proofs: proofs/Since330.antt.
-- Assumes nothing.
use Rattle.std.specs.Prelude.{ℕ, ◌+◌, ◌≤◌, ◌<◌, ◌≡◌, ◌⊎◌, false, List, [], ◌∷◌, leb, length, take}
use Rattle.std.proofs.Math.Option.{none}
use Rattle.spec.specs.Bytes.{join, link, is_nil}
use Rattle.spec.specs.Answer.{Answer, refused, accepted, ◌>>=◌, require, map_answer, passed}
use Rattle.spec.specs.Block.{hd_kind, cg_kind, tx_kind, pr_kind, id_size, Image, image_of, opening, open_as, body_at, read_hd, CgBlock, read_cg}
use Rattle.spec.specs.Reading.{Reading}
use Rattle.spec.specs.Found.{FoundFile, reading_of}
use Rattle.spec.specs.Walk.{data_group_list, ident_passes, most, walk, reads}
use Rattle.spec.specs.Canonical.{copy_length}
use Rattle.spec.specs.Call.{check_outcome, copied, copy_outcome}
use Rattle.spec.specs.Example.{success, id_block, mdf, hd_block, dg_block, cg_block, mode1, of_version}

-- ---- the rule, for one CG

-- below version 330 the link is nil, whatever the block is
abbrev pub NilBelow330 : Type 0
NilBelow330 = (version : ℕ) (block : List ℕ) → version < 330 → (read_cg version block).reduction ≡ none

-- from version 330 on it is what stands at 26, as soon as the size holds it
abbrev pub CountsFrom330 : Type 0
CountsFrom330 = (version : ℕ) (block : List ℕ) → 330 ≤ version → (read_cg version block).reduction ≡ link 26 block

-- ---- the earlier rule

-- in the data groups the version decides about this link alone, so they are read as those of version 330
abbrev pub as_version330 : Image → Image
as_version330 image = record { bytes = image.bytes; version = 330 }

-- `walk`, with the data groups read so
unfoldable pub walk_before : List ℕ → Answer FoundFile
walk_before bytes = do
  _ ← require (leb (length bytes) most) 1 0
  _ ← require (leb id_size (length bytes)) 2 0
  _ ← ident_passes (take id_size bytes)
  hd ← open_as hd_kind (read_hd (image_of bytes).version) (image_of bytes) 64 64
  comment ← body_at tx_kind (image_of bytes) 72 hd.content.comment
  program ← body_at pr_kind (image_of bytes) 76 hd.content.program
  data_groups ← data_group_list (as_version330 (image_of bytes)) 1024 1024 16384 68 hd.content.first_group
  accepted (record { ident = take id_size bytes; header = hd; comment = comment; program = program; data_groups = data_groups })

unfoldable pub reads_before : List ℕ → Answer Reading
reads_before bytes = map_answer reading_of (walk_before bytes)

unfoldable pub copying_before : List ℕ → ℕ → Answer Reading
copying_before image room = do
  r ← reads_before image
  _ ← require (leb (copy_length r) most) 12 0
  _ ← require (leb (copy_length r) room) 13 (copy_length r)
  accepted r

-- what was read of a CG, its link being what stands at 26 as soon as the size holds it
abbrev pub counted : CgBlock → List ℕ → CgBlock
counted cg block =
    record {
      next = cg.next;
      first_channel = cg.first_channel;
      comment = cg.comment;
      record_id = cg.record_id;
      record_size = cg.record_size;
      record_count = cg.record_count;
      reduction = link 26 block;
    }

-- so it was in every version
abbrev pub CountedInEveryVersion : Type 0
CountedInEveryVersion = (image : Image) (block : List ℕ) → read_cg (as_version330 image).version block ≡ counted (read_cg image.version block) block

-- ---- what the change keeps

-- 6 at the sample reduction link of a CG
pub record ReductionRefused {A : Type 0} (image : Image) (answer : Answer A) : Type 0 where
  pub place : ℕ
  pub block : List ℕ
  pub opens : opening cg_kind image place ≡ accepted block
  pub counts : is_nil (link 26 block) ≡ false
  pub refusal : answer ≡ refused 6 (place + 26)

-- both rules give the same, but for images below version 330 that were refused so
abbrev pub DiffersBelow330Alone : Type 0
DiffersBelow330Alone = (a : List ℕ) → (walk a ≡ walk_before a) ⊎ (((image_of a).version < 330) × ReductionRefused (image_of a) (walk_before a))

abbrev pub AsBeforeFrom330 : Type 0
AsBeforeFrom330 = (a : List ℕ) → 330 ≤ (image_of a).version → walk a ≡ walk_before a

-- what was accepted is accepted, with the same reading
abbrev pub AcceptedBeforeIsAccepted : Type 0
AcceptedBeforeIsAccepted = (a : List ℕ) (r : Reading) → reads_before a ≡ accepted r → reads a ≡ accepted r

-- and its copy is what it was: number, place, value and memory, in every memory
abbrev pub CopyIsAsBefore : Type 0
CopyIsAsBefore =
    (a : List ℕ) (r : Reading) → reads_before a ≡ accepted r → (out : List ℕ) → copy_outcome a out ≡ copied (copying_before a (length out)) out

-- ---- that they speak of some image

-- version 329, and one CG whose bytes 26 to 29 are not all 0
abbrev pub unused_link329 : List ℕ
unused_link329 = join (id_block mdf 0 0 329 ∷ hd_block 228 0 0 1 ∷ dg_block 0 256 0 0 1 0 ∷ cg_block 0 0 0 0 0 0 0 0xF0000001 ∷ [])

-- more is accepted: it was refused, and is no longer; likewise in version 300
abbrev pub MoreIsAccepted : Type 0
MoreIsAccepted =
    (passed (walk_before unused_link329) ≡ refused 6 282)
    × (check_outcome unused_link329 ≡ success tt)
    × (passed (copying_before (of_version 300 unused_link329) 999) ≡ refused 6 282)
    × (check_outcome (of_version 300 unused_link329) ≡ success tt)

-- and files below version 330 were accepted
abbrev pub SomethingWasCopied : Type 0
SomethingWasCopied = passed (copying_before mode1 577) ≡ accepted tt
