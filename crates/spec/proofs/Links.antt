-- The proof of specs/Links.antt: answers whose refusals with one of the four are told at their link, step by step.
-- Assumes nothing.
use Prim.Native.Nat.{ℕ, zero, suc, ◌+◌}
use mathlib.Core.Path.{◌≡◌, refl, sym, ◌∙◌, ap, subst}
use mathlib.Core.Logic.{◌⊎◌, inl, inr, ⊎_elim}
use mathlib.Core.Bool.{Bool, true, false, true≢false}
use mathlib.Core.List.{List, [], ◌∷◌}
use mathlib.Core.Option.{Option, none, some}
use lib.ListN.{length, get_elem?}
use Rattle.spec.specs.Bytes.{link}
use Rattle.spec.specs.Answer.{Answer, refused, accepted, ◌>>=◌, require, at_place}
use Rattle.spec.specs.Block.{Kind, hd_kind, dg_kind, cg_kind, cn_kind, cc_kind, tx_kind, pr_kind, ce_kind, Image, image_of, Opened, opening, open_block, open_as, body_of, body_at, read_hd, read_dg, read_cg, Fields, read_cn}
use Rattle.spec.specs.Records.{Slot, log_of}
use Rattle.spec.specs.Found.{FoundBody}
use Rattle.spec.specs.Walk.{fields_pass, formula_passes, conversion_at, channel_at, channel_list, elem, group_list, data_group_list, file_from, ident_passes, walk}
use Rattle.spec.specs.Links.{Link, links, Leads, Reached, header, behind, FaultIsToldAtItsLink}
use Rattle.spec.proofs.Answers.{not_both}
use Rattle.spec.proofs.Opening.{no_other_fault}
use Rattle.spec.proofs.Numbers.{log_among, only_11}

abbrev is_fault : ℕ → Bool
is_fault n = elem n (5 ∷ 17 ∷ 18 ∷ 19 ∷ [])

module _ (image : Image) where
  abbrev Told : ℕ → ℕ → Type 0
  Told n q =
      ((q ≡ 64) × (opening hd_kind image 64 ≡ refused n 0))
      ⊎ ((l : Link) × (p : ℕ) × (t : ℕ) × Reached image l.from p × Leads image l p t × (opening l.to image t ≡ refused n 0) × (q ≡ p + l.offset))

  -- every refusal with one of the four is told so
  record Tells {A : Type 0} (m : Answer A) : Type 0 where
    each : (n q : ℕ) → m ≡ refused n q → is_fault n ≡ true → Told n q

  -- ---- answers

  fine : {A : Type 0} (a : A) → Tells (accepted a)
  fine a = record { each = λ n q e. absurd (not_both refl e) }

  no : {A : Type 0} (n q : ℕ) → is_fault n ≡ false → Tells {A = A} (refused n q)
  no n q h = record { each = λ n' q' e f. let a : n' ≡ n = cc in absurd (true≢false (sym f ∙ (ap is_fault a ∙ h))) }

  then : {A B : Type 0} {m : Answer A} (f : A → Answer B) → Tells m → ((a : A) → Tells (f a)) → Tells (m >>= f)
  unfolding ◌>>=◌
  then {m = refused n q} f h k = record { each = λ n' q' e i. let a : n ≡ n' = cc in let b : q ≡ q' = cc in h.each n' q' (rw (a, b)) i }
  then {m = accepted a} f h k = k a

  test : (t : Bool) (n q : ℕ) → is_fault n ≡ false → Tells (require t n q)
  unfolding require
  test true n q h = fine tt
  test false n q h = no n q h

  -- ---- a link of a block that is reached and opens, at its field

  record Held (k : Kind) (link_field : ℕ) (x : Option ℕ) : Type 0 where
    l : Link
    index : ℕ
    listed : get_elem? links index ≡ some l
    wanted : l.to ≡ k
    p : ℕ
    reached : Reached image l.from p
    block : List ℕ
    opens : opening l.from image p ≡ accepted block
    field : link_field ≡ p + l.offset
    points : link l.offset block ≡ x

  module _ {k : Kind} {link_field t : ℕ} (h : Held k link_field (some t)) where
    leads : Leads image h.l h.p t
    leads = record { index = h.index; listed = h.listed; block = h.block; opens = h.opens; points = h.points }

    reached_behind : Reached image k t
    reached_behind = subst (λ x. Reached image x t) h.wanted (behind h.l h.p t h.reached leads)

    told : (n : ℕ) → opening k image t ≡ refused n 0 → Told n link_field
    told n e = inr (h.l, h.p, t, h.reached, leads, rw h.wanted e, h.field)

  -- a block behind a link, and what is done with it
  after_open : {A B : Type 0} (k : Kind) (read : List ℕ → A) (link_field t : ℕ) (f : Opened A → Answer B)
      → ((n : ℕ) → opening k image t ≡ refused n 0 → Told n link_field)
      → ((block : List ℕ) → opening k image t ≡ accepted block → Tells (f (record { place = t; size = length block; content = read block })))
      → Tells (open_as k read image link_field t >>= f)
  unfolding open_block ◌>>=◌
  after_open {A} {B} k read link_field t f told g = go (opening k image t) refl
    where
      go : (m : Answer (List ℕ)) → opening k image t ≡ m
          → Tells (at_place link_field m >>= (λ block. accepted (record { place = t; size = length block; content = read block })) >>= f)
      go (refused n q) o =
          record {
            each = λ n' q' e i.
                let a : n ≡ n' = cc in
                let b : link_field ≡ q' = cc in
                rw (sym a, sym b) (told n (o ∙ ap (refused n) (no_other_fault k image t n q o).1));
          }
      go (accepted block) o = g block o

  body : {k : Kind} {link_field : ℕ} (x : Option ℕ) → Held k link_field x → Tells (body_at k image link_field x)
  unfolding body_at
  body none h = fine none
  body {k} {link_field} (some t) h = after_open k body_of link_field t _ (told h) λ block o. fine _

  -- ---- channels

  fields_tell : (size p : ℕ) (f : Fields) → Tells (fields_pass size p f)
  unfolding fields_pass
  fields_tell size p f = then _ (test _ _ _ refl) λ _. then _ (test _ _ _ refl) λ _. test _ _ _ refl

  formula_tells : (cc : FoundBody) → Tells (formula_passes cc)
  unfolding formula_passes
  formula_tells none = fine tt
  formula_tells (some cc) = test _ _ _ refl

  -- a link of a block that is reached at p and opens there
  module _ (k : Kind) (p : ℕ) (block : List ℕ) (r : Reached image k p) (o : opening k image p ≡ accepted block) where
    hold : (index offset : ℕ) (to : Kind) → get_elem? links index ≡ some (record { from = k; offset = offset; to = to }) → Held to (p + offset) (link offset block)
    hold index offset to e =
        record {
          l = record { from = k; offset = offset; to = to };
          index = index;
          listed = e;
          wanted = refl;
          p = p;
          reached = r;
          block = block;
          opens = o;
          field = refl;
          points = refl;
        }

  channel_tells : (size p : ℕ) (block : List ℕ) → Reached image cn_kind p → opening cn_kind image p ≡ accepted block
      → Tells (channel_at image size (record { place = p; size = length block; content = read_cn block }))
  unfolding channel_at conversion_at read_cn
  channel_tells size p block r o =
      then _ (then _ (body _ (hold cn_kind p block r o 9 8 cc_kind refl)) λ cc. then _ (formula_tells cc) λ _. fine _) λ _.
      then _ (body _ (hold cn_kind p block r o 10 12 ce_kind refl)) λ _.
      then _ (test _ _ _ refl) λ _.
      then _ (body _ (hold cn_kind p block r o 11 20 tx_kind refl)) λ _.
      then _ (fields_tell _ _ _) λ _.
      then _ (body _ (hold cn_kind p block r o 12 218 tx_kind refl)) λ _.
      then _ (body _ (hold cn_kind p block r o 13 222 tx_kind refl)) λ _.
      fine _

  channels_tell : (left size link_field : ℕ) (x : Option ℕ) → Held cn_kind link_field x → Tells (channel_list image left size link_field x)
  unfolding channel_list read_cn
  channels_tell zero size link_field none h = fine []
  channels_tell zero size link_field (some p) h = no 7 link_field refl
  channels_tell (suc left) size link_field none h = fine []
  channels_tell (suc left) size link_field (some p) h =
      after_open cn_kind read_cn link_field p _ (told h) λ block o.
      let r = reached_behind h in
      then _ (channel_tells size p block r o) λ _.
      then _ (channels_tell left size (p + 4) (link 4 block) (hold cn_kind p block r o 8 4 cn_kind refl)) λ _.
      fine _

  -- ---- groups

  groups_tell : (left cl mode : ℕ) (used : List ℕ) (link_field : ℕ) (x : Option ℕ) → Held cg_kind link_field x → Tells (group_list image left cl mode used link_field x)
  unfolding group_list read_cg
  groups_tell zero cl mode used link_field none h = fine []
  groups_tell zero cl mode used link_field (some p) h = no 7 link_field refl
  groups_tell (suc left) cl mode used link_field none h = fine []
  groups_tell (suc left) cl mode used link_field (some p) h =
      then _ (test _ _ _ refl) λ _.
      after_open cg_kind (read_cg image.version) link_field p _ (told h) λ block o.
      let r = reached_behind h in
      then _ (test _ _ _ refl) λ _.
      then _ (test _ _ _ refl) λ _.
      then _ (body _ (hold cg_kind p block r o 7 12 tx_kind refl)) λ _.
      then _ (test _ _ _ refl) λ _.
      then _ (channels_tell cl _ (p + 8) (link 8 block) (hold cg_kind p block r o 6 8 cn_kind refl)) λ channels.
      then _ (groups_tell left _ mode _ (p + 4) (link 4 block) (hold cg_kind p block r o 5 4 cg_kind refl)) λ _.
      fine _

  -- ---- the file

  log_tells : (mode : ℕ) (slots : List Slot) (link_field : ℕ) (x : Option ℕ) → Tells (log_of image.bytes mode slots link_field x)
  log_tells mode slots link_field x =
      record {
        each = λ n q e f.
            let a = only_11 n ((log_among image.bytes mode slots link_field x).each n q e) in
            absurd (true≢false (sym f ∙ ap is_fault a));
      }

  data_groups_tell : (left gl cl link_field : ℕ) (x : Option ℕ) → Held dg_kind link_field x → Tells (data_group_list image left gl cl link_field x)
  unfolding data_group_list read_dg
  data_groups_tell zero gl cl link_field none h = fine []
  data_groups_tell zero gl cl link_field (some p) h = no 7 link_field refl
  data_groups_tell (suc left) gl cl link_field none h = fine []
  data_groups_tell (suc left) gl cl link_field (some p) h =
      after_open dg_kind read_dg link_field p _ (told h) λ block o.
      let r = reached_behind h in
      then _ (test _ _ _ refl) λ _.
      then _ (test _ _ _ refl) λ _.
      then _ (groups_tell gl cl _ [] (p + 8) (link 8 block) (hold dg_kind p block r o 4 8 cg_kind refl)) λ groups.
      then _ (log_tells _ _ _ _) λ _.
      then _ (data_groups_tell left _ _ (p + 4) (link 4 block) (hold dg_kind p block r o 3 4 dg_kind refl)) λ _.
      fine _

  file_tells : (ident : List ℕ) → Tells (file_from image ident)
  unfolding file_from read_hd
  file_tells ident =
      after_open hd_kind (read_hd image.version) 64 64 _ (λ n e. inl (refl, e)) λ block o.
      then _ (body _ (hold hd_kind 64 block header o 1 8 tx_kind refl)) λ _.
      then _ (body _ (hold hd_kind 64 block header o 2 12 pr_kind refl)) λ _.
      then _ (data_groups_tell 1024 1024 16384 68 (link 4 block) (hold hd_kind 64 block header o 0 4 dg_kind refl)) λ _.
      fine _

  ident_tells : (ident : List ℕ) → Tells (ident_passes ident)
  unfolding ident_passes
  ident_tells ident =
      then _ (test _ _ _ refl) λ _.
      then _ (test _ _ _ refl) λ _.
      then _ (test _ _ _ refl) λ _.
      then _ (test _ _ _ refl) λ _.
      test _ _ _ refl

walk_tells : (a : List ℕ) → Tells (image_of a) (walk a)
unfolding walk
walk_tells a =
    then (image_of a) _ (test (image_of a) _ _ _ refl) λ _.
    then (image_of a) _ (test (image_of a) _ _ _ refl) λ _.
    then (image_of a) _ (ident_tells (image_of a) _) λ _.
    file_tells (image_of a) _

pub fault_is_told_at_its_link : FaultIsToldAtItsLink
fault_is_told_at_its_link a n q e f =
    (walk_tells a).each n q e (⊎_elim (λ a. rw a refl) (⊎_elim (λ a. rw a refl) (⊎_elim (λ a. rw a refl) (λ a. rw a refl))) f)
