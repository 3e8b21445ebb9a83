-- One turn of the walk over data groups.
-- Assumes nothing.
use Prim.Native.Nat.{ℕ, zero, suc, ◌+◌, ◌-◌, ◌<◌}
use mathlib.Core.Path.{◌≡◌, refl, sym, ◌∙◌, ap, ap₂}
use mathlib.Core.List.{List, [], ◌∷◌, map}
use mathlib.Core.Option.{none}
use native.Mathlib.Omega.{arith}
use lib.Dec.{leb}
use lib.ListN.{length, length-map}
use Rattle.spec.specs.Bytes.{u16, u32, to_link, is_nil}
use Rattle.spec.specs.Answer.{Answer, refused, accepted, ◌>>=◌, require, passed}
use Rattle.spec.specs.Block.{Image, dg_kind, opening, Opened, DgBlock, read_dg}
use Rattle.spec.specs.Records.{Logged, log_of}
use Rattle.spec.specs.Found.{FoundGroup, FoundDataGroup, slot_of}
use Rattle.spec.specs.Walk.{channel_count, data_group_list}
use Rattle.spec.proofs.Answers.{step, stop}
use Rattle.refusal.specs.declared.Reason.{Reason}
use Rattle.image.specs.declared.Block.TheVariants.{Shut}
use Rattle.image.specs.declared.Span.{Span}
use Rattle.std.specs.Prelude.{Result, Ok, Err}
use Rattle.refusal.specs.declared.Refusal.{Refusal}
use Rattle.refusal.specs.Refused.{number_of, done}
use Rattle.image.specs.Spans.{block_of, block_in, opened_as}
use Rattle.image.proofs.Blocks.{not_nil, Stands, open_open, open_shut}
use Rattle.walk.specs.Steps.{◌then◌}
use Rattle.walk.specs.Lists.{Summary, summed, groups_from}
use Rattle.walk.proofs.Channels.{then_left, then_right}
use Rattle.walk.proofs.GroupList.{then_bind, seen_then}
use Rattle.file.specs.DataGroups.{Counts, groups_then_log, data_group_at, data_groups_from}

-- ---- one data group

module _ (image : Image) (mode g n : ℕ) (b : Span) where
  pub groups_refused : {k q : ℕ} → refused k q ≡ groups_from image mode [] [] (b.at + 8) (u32 8 (block_in image.bytes b)) g n → refused k q ≡ groups_then_log image mode g n b
  unfolding groups_then_log
  groups_refused e = sym (stop _ (sym e))

  module _ (s : Summary) (e : accepted s ≡ groups_from image mode [] [] (b.at + 8) (u32 8 (block_in image.bytes b)) g n)
      {x : Result (Unit {0}) Refusal} (d : done x ≡ passed (log_of image.bytes mode s.slots (b.at + 16) (to_link (u32 16 (block_in image.bytes b))))) where
    pub log_refused : {f : Refusal} → x ≡ Err f → refused (number_of f.reason) f.place ≡ groups_then_log image mode g n b
    unfolding groups_then_log
    log_refused f = then_left d _ f ∙ sym (step _ (sym e) refl)

    pub log_passed : {u : Unit {0}} → x ≡ Ok u
        → (groups channels : ℕ) → groups ≡ g + length s.slots → channels ≡ s.channels → accepted (record { groups = groups; channels = channels }) ≡ groups_then_log image mode g n b
    unfolding groups_then_log
    log_passed f groups channels x y = then_right d f (λ i. accepted (record { groups = x i; channels = y i })) ∙ sym (step _ (sym e) refl)

-- ---- a turn

pub passed_then : {A B : Type 0} (m : Answer A) (f : A → Answer B) (t : Answer (Unit {0})) → ((a : A) → passed (f a) ≡ t) → passed (m >>= f) ≡ (passed m then t)
passed_then = seen_then passed (λ k p. refl)

pub passed_test : {B : Type 0} (m : Answer (Unit {0})) (f : Unit {0} → Answer B) (t : Answer (Unit {0})) → ((a : Unit {0}) → passed (f a) ≡ t) → passed (m >>= f) ≡ (m then t)
unfolding ◌>>=◌ ◌then◌
passed_test (refused k p) f t h = refl
passed_test (accepted a) f t h = h a

passed_more : {A : Type 0} (a : A) (m : Answer (List A)) → passed (m >>= λ rest. accepted (a ∷ rest)) ≡ passed m
unfolding ◌>>=◌
passed_more a (refused k p) = refl
passed_more a (accepted xs) = refl

module _ (image : Image) (d g n : ℕ) (b : Span) where
  abbrev dg : Opened DgBlock
  dg = opened_as read_dg image.bytes b

  abbrev following : ℕ → ℕ → Answer (List FoundDataGroup)
  following j k = data_group_list image (1024 - (d + 1)) j k (b.at + 4) (to_link (u32 4 (block_in image.bytes b)))

  abbrev onwards : Counts → Answer (Unit {0})
  onwards k = data_groups_from image (b.at + 4) (u32 4 (block_in image.bytes b)) (d + 1) k.groups k.channels

  abbrev logged : ℕ → List FoundGroup → Answer (List Logged)
  logged mode gs = log_of image.bytes mode (map slot_of gs) (b.at + 16) (to_link (u32 16 (block_in image.bytes b)))

  groups_part : (mode : ℕ) (m : Answer (List FoundGroup))
      → passed (m >>= λ gs. logged mode gs >>= λ log. following (1024 - g - length gs) (16384 - n - channel_count gs) >>= λ rest. accepted (record { block = dg; groups = gs; log = log } ∷ rest))
      ≡ ((summed [] n m >>= λ s. passed (log_of image.bytes mode s.slots (b.at + 16) (to_link (u32 16 (block_in image.bytes b)))) then accepted (record { groups = g + length s.slots; channels = s.channels })) >>= onwards)
  unfolding ◌>>=◌ data_groups_from
  groups_part mode (refused k p) = refl
  groups_part mode (accepted gs) =
      let e : 1024 - g - length gs ≡ 1024 - (g + length (map slot_of gs)) = omega (arith, length-map gs slot_of) in
      let f : 16384 - n - channel_count gs ≡ 16384 - (n + channel_count gs) = omega arith in
      passed_then (logged mode gs) _ (passed (following (1024 - g - length gs) (16384 - n - channel_count gs))) (λ log. passed_more _ (following (1024 - g - length gs) (16384 - n - channel_count gs)))
      ∙ ap₂ (λ (j k : ℕ). passed (logged mode gs) then passed (following j k)) e f
      ∙ sym (then_bind (passed (logged mode gs)) (accepted (record { groups = g + length (map slot_of gs); channels = n + channel_count gs })) onwards)

  module _ (field : ℕ) (h : b.at ≡ 0 → ⊥) (l : d < 1024) (s : Stands dg_kind image b.at b) where
    turn_at : data_groups_from image field b.at d g n ≡ (data_group_at image g n b >>= onwards)
    unfolding data_groups_from data_group_list data_group_at groups_then_log groups_from read_dg
    turn_at =
        let one : 1024 - d ≡ suc (1024 - (d + 1)) = omega arith in
        let mode = u16 22 (block_in image.bytes b) in
        let trigger = require (is_nil (to_link (u32 12 (block_in image.bytes b)))) 6 (b.at + 12) in
        let modes = require (leb mode 2) 8 (b.at + 22) in
        let logs = groups_then_log image mode g n b in
        rw (not_nil b.at h, one)
        (ap passed (step _ (open_open dg_kind read_dg image field b.at b s) refl)
        ∙ passed_test _ _ _ (λ _. passed_test _ _ _ (λ _. groups_part (u16 22 (block_in image.bytes b)) _))
        ∙ sym (then_bind trigger (modes then logs) onwards ∙ ap (λ t. trigger then t) (then_bind modes logs onwards)))

no_data_groups : (image : Image) (left gl cl field : ℕ) → data_group_list image left gl cl field none ≡ accepted []
unfolding data_group_list
no_data_groups image zero gl cl field = refl
no_data_groups image (suc left) gl cl field = refl

module _ (image : Image) (field l d g n : ℕ) where
  pub data_groups_end : l ≡ 0 → data_groups_from image field l d g n ≡ accepted tt
  unfolding data_groups_from
  data_groups_end e = rw (e, no_data_groups image (1024 - d) (1024 - g) (16384 - n) field)

  module _ (h : l ≡ 0 → ⊥) where
    pub data_groups_full : d ≡ 1024 → data_groups_from image field l d g n ≡ refused 7 field
    unfolding data_groups_from data_group_list
    data_groups_full e = rw (e, not_nil l h)

    module _ (m : d < 1024) where
      pub data_groups_shut : {r : Reason} → Shut r ≡ block_of l (opening dg_kind image l) → data_groups_from image field l d g n ≡ refused (number_of r) field
      unfolding data_groups_from data_group_list
      data_groups_shut o =
          let one : 1024 - d ≡ suc (1024 - (d + 1)) = omega arith in
          rw (not_nil l h, one) (ap passed (stop _ (open_shut dg_kind read_dg image field l o)))

      module _ (b : Span) (s : Stands dg_kind image l b) where
        turn : data_groups_from image field l d g n ≡ (data_group_at image g n b >>= onwards image d g n b)
        turn =
            ap (λ k. data_groups_from image field k d g n) (sym s.place)
            ∙ turn_at image d g n b field (λ e. h (sym s.place ∙ e)) m (rw (← s.place) at s)

        pub data_groups_stop : {k q : ℕ} → refused k q ≡ data_group_at image g n b → data_groups_from image field l d g n ≡ refused k q
        data_groups_stop e = turn ∙ stop _ (sym e)

        pub data_groups_go : {k : Counts} → accepted k ≡ data_group_at image g n b
            → data_groups_from image field l d g n ≡ data_groups_from image (b.at + 4) (u32 4 (block_in image.bytes b)) (d + 1) k.groups k.channels
        data_groups_go e = turn ∙ step _ (sym e) refl
