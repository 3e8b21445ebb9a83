-- The proofs of specs/Since330.antt.
-- Assumes nothing.
use Prim.Native.Nat.{ℕ, zero, suc, ◌+◌, ◌-◌, ◌<◌}
use mathlib.Core.Path.{◌≡◌, refl, sym, ◌∙◌, ap}
use mathlib.Core.Logic.{◌⊎◌, inl, inr, ⊎_elim}
use mathlib.Core.Bool.{Bool, true, false, true≢false}
use mathlib.Core.List.{List, [], ◌∷◌}
use mathlib.Core.Option.{Option, none, some}
use native.Mathlib.Omega.{arith}
use lib.Dec.{ltb}
use lib.ListN.{length}
use borrow.Author.Tests.{ltb-true, lt-ltb, le-ltb}
use Rattle.spec.specs.Bytes.{is_nil, field, link}
use Rattle.spec.specs.Answer.{Answer, refused, accepted, ◌>>=◌, require, map_answer, at_place}
use Rattle.spec.specs.Block.{Kind, cg_kind, tx_kind, Image, image_of, opening, open_block, Opened, open_as, body_at, read_hd, read_dg, CgBlock, read_cg, CnBlock, read_cn}
use Rattle.spec.specs.Records.{in_order, by_id, log_from, log_of}
use Rattle.spec.specs.Found.{reading_of}
use Rattle.spec.specs.Walk.{fields_pass, formula_passes, conversion_at, channel_at, channel_list, group_list, channel_count, data_group_list, file_from, ident_passes, walk, reads}
use Rattle.spec.specs.Canonical.{channel_length, copy_length}
use Rattle.spec.specs.Call.{check_outcome, copying, copy_outcome}
use Rattle.spec.specs.Since330.{as_version330, walk_before, reads_before, copying_before, NilBelow330, CountsFrom330, CountedInEveryVersion, ReductionRefused, DiffersBelow330Alone, AsBeforeFrom330, AcceptedBeforeIsAccepted, CopyIsAsBefore, MoreIsAccepted, SomethingWasCopied}
use Rattle.spec.proofs.Blocks.{cond_same}
use Rattle.spec.proofs.Answers.{stop, fail, not_both}

-- ---- one CG

pub nil_below_330 : NilBelow330
unfolding read_cg
nil_below_330 version block h = rw (lt-ltb version 330 h)

pub counts_from_330 : CountsFrom330
unfolding read_cg
counts_from_330 version block h = rw (le-ltb version 330 h)

pub counted_in_every_version : CountedInEveryVersion
unfolding read_cg
counted_in_every_version image block = refl

nil_none : (l : Option ℕ) → is_nil l ≡ true → l ≡ none
nil_none none e = refl
nil_none (some p) e = absurd (true≢false (sym e))

-- one whose link is nil is read as before
same_nil : (version : ℕ) (block : List ℕ) → is_nil (link 26 block) ≡ true → read_cg version block ≡ read_cg 330 block
unfolding read_cg
same_nil version block e = rw (nil_none (link 26 block) e) (simp cond_same)

-- and so is every one from version 330 on
same_from_330 : (version : ℕ) (block : List ℕ) → ltb version 330 ≡ false → read_cg version block ≡ read_cg 330 block
unfolding read_cg
same_from_330 version block e = rw e

-- ---- two answers, the later one first

-- they are the same, or the earlier one is 6 at the link, and the version below 330
abbrev Agrees : {A : Type 0} → Image → Answer A → Answer A → Type 0
Agrees image now before = (now ≡ before) ⊎ ((image.version < 330) × ReductionRefused image before)

-- where one step agrees, and what follows it does
agrees_then : {A B : Type 0} {image : Image} {m m' : Answer A} {f f' : A → Answer B}
    → Agrees image m m'
    → ((a : A) → Agrees image (f a) (f' a))
    → Agrees image (m >>= f) (m' >>= f')
unfolding ◌>>=◌
agrees_then {image} {m} {m'} {f} {f'} h k =
    ⊎_elim (λ e. rw e (go m')) (λ s. inr (s.0, record { place = s.1.place; block = s.1.block; opens = s.1.opens; counts = s.1.counts; refusal = stop f' s.1.refusal })) h
  where
    go : (m : Answer _) → Agrees image (m >>= f) (m >>= f')
    go (refused n p) = inl refl
    go (accepted a) = k a

-- ---- the walk

module _ (image : Image) where
  abbrev before : Image
  before = as_version330 image

  body_same : (k : Kind) (link_field : ℕ) (l : Option ℕ) → body_at k image link_field l ≡ body_at k before link_field l
  unfolding body_at open_block opening
  body_same k link_field none = refl
  body_same k link_field (some p) = refl

  channel_same : (size : ℕ) (cn : Opened CnBlock) → channel_at image size cn ≡ channel_at before size cn
  unfolding channel_at conversion_at
  channel_same size cn = simp body_same

  channels_same : (left size link_field : ℕ) (l : Option ℕ) → channel_list image left size link_field l ≡ channel_list before left size link_field l
  unfolding channel_list open_block opening
  channels_same zero size link_field none = refl
  channels_same zero size link_field (some p) = refl
  channels_same (suc left) size link_field none = refl
  channels_same (suc left) size link_field (some p) = simp (channel_same, channels_same left)

  -- a CG and the test of its link, then what follows
  module _ {B : Type 0} (link_field p : ℕ) {f f' : Opened CgBlock → Answer B} (follows : (cg : Opened CgBlock) → Agrees image (f cg) (f' cg)) where
    abbrev tested : (Opened CgBlock → Answer B) → Opened CgBlock → Answer B
    tested f cg = require (is_nil cg.content.reduction) 6 (p + 26) >>= λ _. f cg

    abbrev opened : ℕ → List ℕ → Opened CgBlock
    opened version block = record { place = p; size = length block; content = read_cg version block }

    link_same : (block : List ℕ) → read_cg image.version block ≡ read_cg 330 block
        → Agrees image (tested f (opened image.version block)) (tested f' (opened 330 block))
    link_same block e = rw e (agrees_then (inl refl) λ _. follows (opened 330 block))

    link_agrees : (block : List ℕ) (nil below : Bool) → opening cg_kind image p ≡ accepted block → is_nil (link 26 block) ≡ nil → ltb image.version 330 ≡ below
        → Agrees image (tested f (opened image.version block)) (tested f' (opened 330 block))
    unfolding read_cg
    link_agrees block true below o n v = link_same block (same_nil image.version block n)
    link_agrees block false false o n v = link_same block (same_from_330 image.version block v)
    link_agrees block false true o n v =
        inr (ltb-true _ _ v, record { place = p; block = block; opens = o; counts = n; refusal = stop _ (fail _ _ _ n) })

    cg_agrees : Agrees image (open_as cg_kind (read_cg image.version) image link_field p >>= tested f) (open_as cg_kind (read_cg 330) before link_field p >>= tested f')
    unfolding ◌>>=◌ open_block opening
    cg_agrees = go (opening cg_kind image p) refl
      where
        go : (m : Answer (List ℕ)) → opening cg_kind image p ≡ m
            → Agrees image (at_place link_field m >>= (λ block. accepted (opened image.version block)) >>= tested f) (at_place link_field m >>= (λ block. accepted (opened 330 block)) >>= tested f')
        go (refused n q) o = inl refl
        go (accepted block) o = link_agrees block (is_nil (link 26 block)) (ltb image.version 330) o refl refl

  groups_agree : (left channels_left mode : ℕ) (used : List ℕ) (link_field : ℕ) (l : Option ℕ)
      → Agrees image (group_list image left channels_left mode used link_field l) (group_list before left channels_left mode used link_field l)
  unfolding group_list
  groups_agree zero cl mode used link_field none = inl refl
  groups_agree zero cl mode used link_field (some p) = inl refl
  groups_agree (suc left) cl mode used link_field none = inl refl
  groups_agree (suc left) cl mode used link_field (some p) =
      agrees_then (inl refl) λ _.
      cg_agrees link_field p λ cg.
      agrees_then (inl refl) λ _.
      agrees_then (inl (body_same tx_kind _ _)) λ comment.
      agrees_then (inl refl) λ _.
      agrees_then (inl (channels_same cl _ _ _)) λ channels.
      agrees_then (groups_agree left (cl - length channels) mode (cg.content.record_id ∷ used) (p + 4) cg.content.next) λ rest.
      inl refl

  data_groups_agree : (left gl cl link_field : ℕ) (l : Option ℕ)
      → Agrees image (data_group_list image left gl cl link_field l) (data_group_list before left gl cl link_field l)
  unfolding data_group_list open_block opening
  data_groups_agree zero gl cl link_field none = inl refl
  data_groups_agree zero gl cl link_field (some p) = inl refl
  data_groups_agree (suc left) gl cl link_field none = inl refl
  data_groups_agree (suc left) gl cl link_field (some p) =
      agrees_then (inl refl) λ dg.
      agrees_then (inl refl) λ _.
      agrees_then (inl refl) λ _.
      agrees_then (groups_agree gl cl dg.content.mode [] _ _) λ gs.
      agrees_then (inl refl) λ log.
      agrees_then (data_groups_agree left (gl - length gs) (cl - channel_count gs) (p + 4) dg.content.next) λ rest.
      inl refl

pub differs_below_330_alone : DiffersBelow330Alone
unfolding walk_before walk file_from
differs_below_330_alone a =
    agrees_then (inl refl) λ _.
    agrees_then (inl refl) λ _.
    agrees_then (inl refl) λ _.
    agrees_then (inl refl) λ hd.
    agrees_then (inl refl) λ comment.
    agrees_then (inl refl) λ program.
    agrees_then (data_groups_agree (image_of a) _ _ _ _ _) λ ds.
    inl refl

pub as_before_from_330 : AsBeforeFrom330
as_before_from_330 a h = ⊎_elim (λ e. e) (λ s. absurd (omega (arith, s.0))) (differs_below_330_alone a)

pub accepted_before_is_accepted : AcceptedBeforeIsAccepted
unfolding reads_before reads
accepted_before_is_accepted a r e =
    ⊎_elim (λ s. ap (map_answer reading_of) s ∙ e) (λ s. absurd (not_both e (ap (map_answer reading_of) s.1.refusal))) (differs_below_330_alone a)

pub copy_is_as_before : CopyIsAsBefore
unfolding copy_outcome copying copying_before
copy_is_as_before a r e out = rw (accepted_before_is_accepted a r e, e)

pub more_is_accepted : MoreIsAccepted
unfolding field ◌>>=◌ require opening open_block body_at read_hd read_dg read_cg in_order log_from log_of reading_of channel_list group_list data_group_list file_from ident_passes walk check_outcome walk_before reads_before copying_before
more_is_accepted = (refl, refl, refl, refl)

pub something_was_copied : SomethingWasCopied
unfolding field ◌>>=◌ require opening open_block body_at read_hd read_dg read_cg read_cn by_id log_from log_of reading_of fields_pass formula_passes conversion_at channel_at channel_list group_list data_group_list ident_passes channel_length copy_length walk_before reads_before copying_before
something_was_copied = refl
