-- A step of the walk over the groups of a data group, in an accepted image.
-- Assumes nothing.
use Prim.Native.Nat.{ℕ, zero, suc, ◌+◌, ◌<◌}
use native.Mathlib.Omega.{arith}
use mathlib.Core.Path.{◌≡◌, refl}
use mathlib.Core.Bool.{true}
use mathlib.Core.List.{List, [], ◌∷◌}
use mathlib.Core.Option.{some}
use Rattle.spec.specs.Bytes.{u16, u32, to_link}
use Rattle.spec.specs.Answer.{accepted}
use Rattle.spec.specs.Block.{Image, cg_kind, tx_kind, opening, body_at, read_cg}
use Rattle.spec.specs.Found.{FoundGroup}
use Rattle.spec.specs.Walk.{channel_list, group_list, id_allowed}
use Rattle.spec.proofs.Answers.{stop, Gives, gives, gives_none, bind, test, anything}
use Rattle.image.specs.declared.Span.{Span}
use Rattle.image.specs.declared.Block.TheVariants.{Shut}
use Rattle.refusal.specs.declared.Reason.{Reason}
use Rattle.image.specs.Spans.{block_of, block_in, opened_as}
use Rattle.image.proofs.Blocks.{not_nil, Stands, open_shut, open_open}
use Rattle.position.proofs.Lists.{self, gives_step, not_both}

module _ (image : Image) where
  -- the first of a list of groups, whose block is in b, and where it goes on
  pub record GroupNext (n mode : ℕ) (used : List ℕ) (b : Span) (gs : List FoundGroup) : Type 0 where
    pub group : FoundGroup
    pub more : List FoundGroup
    pub is : gs ≡ group ∷ more
    pub block : group.block ≡ opened_as (read_cg image.version) image.bytes b
    pub allowed : id_allowed mode used (u16 16 (block_in image.bytes b)) ≡ true
    pub comment_field : ℕ
    pub comment : body_at tx_kind image comment_field (to_link (u32 12 (block_in image.bytes b))) ≡ accepted group.comment
    pub channels_left : ℕ
    pub channels_field : ℕ
    pub channels : channel_list image channels_left (u16 20 (block_in image.bytes b)) channels_field (to_link (u32 8 (block_in image.bytes b))) ≡ accepted group.channels
    pub left : ℕ
    pub less : left < n
    pub channels_behind : ℕ
    pub field : ℕ
    pub onwards : group_list image left channels_behind mode (u16 16 (block_in image.bytes b) ∷ used) field (to_link (u32 4 (block_in image.bytes b))) ≡ accepted more

  pub no_groups : (left cl mode : ℕ) (used : List ℕ) (field l : ℕ) {gs : List FoundGroup} → l ≡ 0 → group_list image left cl mode used field (to_link l) ≡ accepted gs → gs ≡ []
  unfolding group_list
  no_groups zero cl mode used field l e h = let h' = rw e at h in cc
  no_groups (suc left) cl mode used field l e h = let h' = rw e at h in cc

  module _ (mode : ℕ) (used : List ℕ) (field l : ℕ) (h : l ≡ 0 → ⊥) where
    list_gives : (left cl : ℕ) (b : Span) → Stands cg_kind image l b → Gives (group_list image (suc left) cl mode used field (some l)) (GroupNext (suc left) mode used b)
    unfolding group_list read_cg
    list_gives left cl b s =
        bind _ (anything _) λ _ _.
        gives_step _ (open_open cg_kind (read_cg image.version) image field l b s)
        (bind _ (anything _) λ _ _.
        bind _ (test _ _ _) λ _ t.
        bind _ (self _) λ comment e₁.
        bind _ (anything _) λ _ _.
        bind _ (self _) λ channels e₂.
        bind _ (self _) λ more e₃.
        gives _ (record { group = record { block = opened_as (read_cg image.version) image.bytes b; comment = comment; channels = channels }; more = more; is = refl; block = refl; allowed = t; comment_field = l + 12; comment = e₁; channels_left = cl; channels_field = l + 8; channels = e₂; left = left; less = omega arith; channels_behind = _; field = l + 4; onwards = e₃ }))

    shut_gives : (left cl : ℕ) → {r : Reason} → Shut r ≡ block_of l (opening cg_kind image l) → Gives (group_list image (suc left) cl mode used field (some l)) (λ _. ⊥)
    unfolding group_list
    shut_gives left cl s = bind _ (anything _) λ _ _. record { given = λ gs e. not_both e (stop _ (open_shut cg_kind (read_cg image.version) image field l s)) }

    pub group_opens : (left cl : ℕ) {gs : List FoundGroup} → group_list image left cl mode used field (to_link l) ≡ accepted gs → {r : Reason} → Shut r ≡ block_of l (opening cg_kind image l) → ⊥
    unfolding group_list
    group_opens zero cl e s = not_both (rw (not_nil l h) at e) refl
    group_opens (suc left) cl e s = (shut_gives left cl s).given _ (rw (not_nil l h) at e)

    pub group_next : (left cl : ℕ) (b : Span) {gs : List FoundGroup} → Stands cg_kind image l b → group_list image left cl mode used field (to_link l) ≡ accepted gs → GroupNext left mode used b gs
    unfolding group_list
    group_next zero cl b s e = absurd (not_both (rw (not_nil l h) at e) refl)
    group_next (suc left) cl b s e = (list_gives left cl b s).given _ (rw (not_nil l h) at e)

    some_gives : (left cl : ℕ) → Gives (group_list image left cl mode used field (some l)) (λ gs. (g : FoundGroup) × (more : List FoundGroup) × (gs ≡ g ∷ more))
    unfolding group_list
    some_gives zero cl = gives_none _ _
    some_gives (suc left) cl =
        bind _ (anything _) λ _ _.
        bind _ (anything _) λ _ _.
        bind _ (anything _) λ _ _.
        bind _ (anything _) λ _ _.
        bind _ (anything _) λ _ _.
        bind _ (anything _) λ _ _.
        bind _ (anything _) λ _ _.
        bind _ (anything _) λ _ _.
        gives _ (_, _, refl)

    -- behind a link stands a group
    pub some_group : (left cl : ℕ) {gs : List FoundGroup} → group_list image left cl mode used field (to_link l) ≡ accepted gs → (g : FoundGroup) × (more : List FoundGroup) × (gs ≡ g ∷ more)
    some_group left cl e = (some_gives left cl).given _ (rw (not_nil l h) at e)
