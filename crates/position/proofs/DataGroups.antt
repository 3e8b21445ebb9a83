-- A step of the walk over the data groups, in an accepted image.
-- Assumes nothing.
use Prim.Native.Nat.{ℕ, zero, suc, ◌+◌, ◌-◌, ◌≤◌, ◌<◌}
use mathlib.Core.Path.{◌≡◌, refl}
use mathlib.Core.List.{List, [], ◌∷◌}
use mathlib.Core.Option.{some}
use native.Mathlib.Omega.{arith}
use borrow.Author.Tests.{leb-true}
use Rattle.spec.specs.Bytes.{u32, to_link}
use Rattle.spec.specs.Answer.{accepted}
use Rattle.spec.specs.Block.{image_of, dg_kind, opening, read_dg}
use Rattle.spec.specs.Found.{FoundDataGroup}
use Rattle.spec.specs.Walk.{data_group_list, channel_count}
use lib.ListN.{length}
use Rattle.spec.proofs.Answers.{stop, Gives, gives, bind, test, anything}
use Rattle.image.specs.declared.Span.{Span}
use Rattle.image.specs.declared.Block.TheVariants.{Shut}
use Rattle.refusal.specs.declared.Reason.{Reason}
use Rattle.image.specs.Spans.{block_of, block_in, opened_as}
use Rattle.image.proofs.Blocks.{not_nil, Stands, open_shut, open_open}
use Rattle.position.specs.Position.{DataGroupFound}
use Rattle.position.proofs.Lists.{self, gives_step, not_both}

-- the first of a list of data groups, whose block is in b, and where it goes on
pub record DataGroupNext (image : List ℕ) (left : ℕ) (b : Span) (ds : List FoundDataGroup) : Type 0 where
  pub data_group : FoundDataGroup
  pub more : List FoundDataGroup
  pub is : ds ≡ data_group ∷ more
  pub found : DataGroupFound image b data_group
  pub some_left : 0 < left
  pub groups_behind : ℕ
  pub few : groups_behind ≤ 1024
  pub channels_behind : ℕ
  pub field : ℕ
  pub onwards : data_group_list (image_of image) (left - 1) groups_behind channels_behind field (to_link (u32 4 (block_in image b))) ≡ accepted more

module _ (image : List ℕ) where
  pub no_data_groups : (left gl cl field l : ℕ) {ds : List FoundDataGroup} → l ≡ 0 → data_group_list (image_of image) left gl cl field (to_link l) ≡ accepted ds → ds ≡ []
  unfolding data_group_list
  no_data_groups zero gl cl field l e h = let h' = rw e at h in cc
  no_data_groups (suc left) gl cl field l e h = let h' = rw e at h in cc

  module _ (gl cl field l : ℕ) (h : l ≡ 0 → ⊥) where
    list_gives : (left : ℕ) (b : Span) → gl ≤ 1024 → Stands dg_kind (image_of image) l b → Gives (data_group_list (image_of image) (suc left) gl cl field (some l)) (DataGroupNext image (suc left) b)
    unfolding data_group_list read_dg
    list_gives left b few s =
        gives_step _ (open_open dg_kind read_dg (image_of image) field l b s)
        (bind _ (anything _) λ _ _.
        bind _ (test _ _ _) λ _ t.
        bind _ (self _) λ groups e₁.
        bind _ (self _) λ log e₂.
        bind _ (self _) λ more e₃.
        let one : suc left - 1 ≡ left = omega arith in
        gives _ (record {
          data_group = record { block = opened_as read_dg image b; groups = groups; log = log };
          more = more;
          is = refl;
          found = record { block = refl; holds = record { inside = s.inside; least = s.least }; mode = leb-true _ _ t; groups_left = gl; few = few; channels_left = cl; groups_field = l + 8; groups = e₁; log_field = l + 16; log = e₂ };
          some_left = omega arith;
          groups_behind = gl - length groups;
          few = omega (arith, few);
          channels_behind = cl - channel_count groups;
          field = l + 4;
          onwards = rw one e₃;
        }))

    pub data_group_opens : (left : ℕ) {ds : List FoundDataGroup} → data_group_list (image_of image) left gl cl field (to_link l) ≡ accepted ds → {r : Reason} → Shut r ≡ block_of l (opening dg_kind (image_of image) l) → ⊥
    unfolding data_group_list
    data_group_opens zero e s = not_both (rw (not_nil l h) at e) refl
    data_group_opens (suc left) e s = not_both (rw (not_nil l h) at e) (stop _ (open_shut dg_kind read_dg (image_of image) field l s))

    pub data_group_next : (left : ℕ) (b : Span) {ds : List FoundDataGroup} → gl ≤ 1024 → Stands dg_kind (image_of image) l b → data_group_list (image_of image) left gl cl field (to_link l) ≡ accepted ds → DataGroupNext image left b ds
    unfolding data_group_list
    data_group_next zero b few s e = absurd (not_both (rw (not_nil l h) at e) refl)
    data_group_next (suc left) b few s e = (list_gives left b few s).given _ (rw (not_nil l h) at e)
