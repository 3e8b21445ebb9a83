-- One turn of the walk over the channel groups of a data group.
-- Assumes nothing.
use Prim.Native.Nat.{ℕ, zero, suc, ◌+◌, ◌-◌, ◌<◌}
use mathlib.Core.Path.{◌≡◌, refl, sym, ◌∙◌, ap, ap₂}
use mathlib.Core.Bool.{true, false}
use mathlib.Core.List.{List, [], ◌∷◌, ◌++◌, map, append-nil, append_assoc}
use mathlib.Core.Option.{none}
use native.Mathlib.Omega.{arith}
use lib.ListN.{length}
use Rattle.spec.specs.Bytes.{u16, u32, to_link}
use Rattle.spec.specs.Answer.{Answer, refused, accepted, ◌>>=◌, map_answer, passed}
use Rattle.spec.specs.Block.{Image, cg_kind, opening, Opened, CgBlock, read_cg}
use Rattle.spec.specs.Records.{Slot}
use Rattle.spec.specs.Found.{FoundBody, FoundChannel, FoundGroup, slot_of}
use Rattle.spec.specs.Walk.{elem, group_allowed, group_list}
use Rattle.spec.proofs.Answers.{step, pass, stop, fail}
use Rattle.refusal.specs.declared.Reason.{Reason}
use Rattle.image.specs.declared.Block.TheVariants.{Shut}
use Rattle.image.specs.declared.Span.{Span}
use Rattle.refusal.specs.Refused.{number_of}
use Rattle.image.specs.Spans.{block_of, block_in, opened_as}
use Rattle.image.proofs.Blocks.{not_nil, Stands, open_open, open_shut}
use Rattle.walk.specs.Steps.{◌then◌, group_head}
use Rattle.walk.proofs.Channels.{then_assoc}
use Rattle.walk.specs.Lists.{channels_from, group_at, slot_in, Summary, summed, groups_from}

-- ---- steps and answers

pub then_bind : {A B : Type 0} (s : Answer (Unit {0})) (m : Answer A) (f : A → Answer B) → ((s then m) >>= f) ≡ (s then (m >>= f))
unfolding ◌then◌ ◌>>=◌
then_bind (refused n p) m f = refl
then_bind (accepted u) m f = refl

-- what is made of an answer, where refusals stay: of a first part and the rest
pub seen_then : {A B C : Type 0} (o : Answer B → Answer C) → ((k p : ℕ) → o (refused k p) ≡ refused k p) → (m : Answer A) (f : A → Answer B) (t : Answer C) → ((a : A) → o (f a) ≡ t) → o (m >>= f) ≡ (passed m then t)
unfolding ◌>>=◌ ◌then◌
seen_then o r (refused k p) f t h = r k p
seen_then o r (accepted a) f t h = h a

summed_then : {A : Type 0} (ss : List Slot) (n : ℕ) (m : Answer A) (f : A → Answer (List FoundGroup)) (t : Answer Summary) → ((a : A) → summed ss n (f a) ≡ t) → summed ss n (m >>= f) ≡ (passed m then t)
summed_then ss n = seen_then (summed ss n) (λ k p. refl)

summed_test : (ss : List Slot) (n : ℕ) (m : Answer (Unit {0})) (f : Unit {0} → Answer (List FoundGroup)) (t : Answer Summary) → ((a : Unit {0}) → summed ss n (f a) ≡ t) → summed ss n (m >>= f) ≡ (m then t)
unfolding ◌>>=◌ ◌then◌
summed_test ss n (refused k p) f t h = refl
summed_test ss n (accepted a) f t h = h a

-- one group in front of the rest
summed_more : (ss : List Slot) (n : ℕ) (g : FoundGroup) (m : Answer (List FoundGroup))
    → summed ss n (m >>= λ rest. accepted (g ∷ rest)) ≡ summed (ss ++ (slot_of g ∷ [])) (n + length g.channels) m
unfolding ◌>>=◌
summed_more ss n g (refused k p) = refl
summed_more ss n g (accepted gs) =
    ap₂ (λ (x : List Slot) (y : ℕ). accepted (record { slots = x; channels = y })) (sym (append_assoc ss (slot_of g ∷ []) (map slot_of gs))) (omega arith)

no_groups : (image : Image) (left cl mode : ℕ) (used : List ℕ) (field : ℕ) → group_list image left cl mode used field none ≡ accepted []
unfolding group_list
no_groups image zero cl mode used field = refl
no_groups image (suc left) cl mode used field = refl

-- ---- the channels of a group, and the groups behind it

module _ (image : Image) (mode : ℕ) (ss : List Slot) (used : List ℕ) (g n : ℕ) (b : Span) where
  abbrev cg : Opened CgBlock
  cg = opened_as (read_cg image.version) image.bytes b

  -- the groups behind it, with so many channels left
  abbrev following : ℕ → Answer (List FoundGroup)
  following k = group_list image (1024 - (g + 1)) k mode (u16 16 (block_in image.bytes b) ∷ used) (b.at + 4) (to_link (u32 4 (block_in image.bytes b)))

  abbrev found_group : FoundBody → List FoundChannel → FoundGroup
  found_group comment channels = record { block = cg; comment = comment; channels = channels }

  abbrev onwards : ℕ → Answer Summary
  onwards n' = groups_from image mode (ss ++ (slot_in image.bytes b ∷ [])) (u16 16 (block_in image.bytes b) ∷ used) (b.at + 4) (u32 4 (block_in image.bytes b)) (g + 1) n'

  channels_part : (comment : FoundBody) (m : Answer (List FoundChannel))
      → summed ss n (m >>= λ channels. following (16384 - n - length channels) >>= λ rest. accepted (found_group comment channels ∷ rest)) ≡ (map_answer (λ xs. n + length xs) m >>= onwards)
  unfolding ◌>>=◌ groups_from read_cg
  channels_part comment (refused k p) = refl
  channels_part comment (accepted xs) =
      let e : 16384 - n - length xs ≡ 16384 - (n + length xs) = omega arith in
      summed_more ss n (found_group comment xs) (following (16384 - n - length xs)) ∙ ap (λ k. summed (ss ++ (slot_in image.bytes b ∷ [])) (n + length xs) (following k)) e

  module _ (field : ℕ) (h : b.at ≡ 0 → ⊥) (l : g < 1024) (allowed : group_allowed mode used ≡ true) (s : Stands cg_kind image b.at b) where
    turn_at : groups_from image mode ss used field b.at g n ≡ (group_at image mode (elem (u16 16 (block_in image.bytes b)) used) n b >>= onwards)
    unfolding groups_from group_list group_at group_head channels_from read_cg
    turn_at =
        let one : 1024 - g ≡ suc (1024 - (g + 1)) = omega arith in
        rw (not_nil b.at h, one)
        (ap (summed ss n) (step _ (pass _ _ _ allowed) (step _ (open_open cg_kind (read_cg image.version) image field b.at b s) refl))
        ∙ summed_test ss n _ _ _ (λ _. summed_test ss n _ _ _ (λ _. summed_then ss n _ _ _ (λ comment. summed_test ss n _ _ _ (λ _. channels_part comment _))))
        ∙ sym (then_bind _ _ onwards ∙ simp then_assoc))

-- ---- the turns

module _ (image : Image) (mode : ℕ) (ss : List Slot) (used : List ℕ) (field l g n : ℕ) where
  pub groups_end : l ≡ 0 → groups_from image mode ss used field l g n ≡ accepted (record { slots = ss; channels = n })
  unfolding groups_from
  groups_end e =
      rw (e, no_groups image (1024 - g) (16384 - n) mode used field)
      (ap₂ (λ (x : List Slot) (y : ℕ). accepted (record { slots = x; channels = y })) (append-nil ss) (omega arith))

  module _ (h : l ≡ 0 → ⊥) where
    pub groups_full : g ≡ 1024 → groups_from image mode ss used field l g n ≡ refused 7 field
    unfolding groups_from group_list
    groups_full e = rw (e, not_nil l h)

    module _ (m : g < 1024) where
      one_left : 1024 - g ≡ suc (1024 - (g + 1))
      one_left = omega arith

      pub groups_second : group_allowed mode used ≡ false → groups_from image mode ss used field l g n ≡ refused 8 field
      unfolding groups_from group_list
      groups_second e = rw (not_nil l h, one_left) (ap (summed ss n) (stop _ (fail _ _ _ e)))

      module _ (allowed : group_allowed mode used ≡ true) where
        pub groups_shut : {r : Reason} → Shut r ≡ block_of l (opening cg_kind image l) → groups_from image mode ss used field l g n ≡ refused (number_of r) field
        unfolding groups_from group_list
        groups_shut o =
            rw (not_nil l h, one_left) (ap (summed ss n) (step _ (pass _ _ _ allowed) (stop _ (open_shut cg_kind (read_cg image.version) image field l o))))

        module _ (b : Span) (s : Stands cg_kind image l b) where
          turn : groups_from image mode ss used field l g n ≡ (group_at image mode (elem (u16 16 (block_in image.bytes b)) used) n b >>= onwards image mode ss used g n b)
          turn =
              ap (λ k. groups_from image mode ss used field k g n) (sym s.place)
              ∙ turn_at image mode ss used g n b field (λ e. h (sym s.place ∙ e)) m allowed (rw (← s.place) at s)

          pub groups_stop : {k q : ℕ} → refused k q ≡ group_at image mode (elem (u16 16 (block_in image.bytes b)) used) n b → groups_from image mode ss used field l g n ≡ refused k q
          groups_stop e = turn ∙ stop _ (sym e)

          pub groups_go : {n' : ℕ} → accepted n' ≡ group_at image mode (elem (u16 16 (block_in image.bytes b)) used) n b
              → groups_from image mode ss used field l g n
              ≡ groups_from image mode (ss ++ (slot_in image.bytes b ∷ [])) (u16 16 (block_in image.bytes b) ∷ used) (b.at + 4) (u32 4 (block_in image.bytes b)) (g + 1) n'
          groups_go e = turn ∙ step _ (sym e) refl
