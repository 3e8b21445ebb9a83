-- One turn of the walk over channels.
-- Assumes nothing.
use Prim.Native.Nat.{ℕ, zero, suc, ◌+◌, ◌-◌, ◌<◌}
use mathlib.Core.Path.{◌≡◌, refl, sym, ◌∙◌, ap}
use mathlib.Core.List.{List, [], ◌∷◌}
use mathlib.Core.Option.{none}
use native.Mathlib.Omega.{arith}
use lib.ListN.{length}
use Rattle.std.specs.Prelude.{Result, Ok, Err}
use Rattle.refusal.specs.declared.Refusal.{Refusal}
use Rattle.refusal.specs.Refused.{number_of, done}
use Rattle.spec.specs.Bytes.{u32, to_link}
use Rattle.spec.specs.Answer.{Answer, refused, accepted, ◌>>=◌, map_answer, passed}
use Rattle.spec.specs.Block.{Image, cn_kind, opening, read_cn}
use Rattle.spec.specs.Walk.{channel_at, channel_list}
use Rattle.spec.proofs.Answers.{step, stop}
use Rattle.refusal.specs.declared.Reason.{Reason}
use Rattle.image.specs.declared.Block.TheVariants.{Shut}
use Rattle.image.specs.declared.Span.{Span}
use Rattle.image.specs.Spans.{block_of, block_in, opened_as}
use Rattle.image.proofs.Blocks.{not_nil, Stands, open_open, open_shut}
use Rattle.walk.specs.Lists.{channels_from}

-- what a step of the code says of the definition's answer
went : {A : Type 0} (m : Answer A) → accepted tt ≡ passed m → (a : A) × (m ≡ accepted a)
went (refused n p) e = let z : ◌≡◌ {A = ℕ} 0 1 = cc in absurd (omega arith)
went (accepted a) e = (a, refl)

stopped : {A : Type 0} (m : Answer A) {n p : ℕ} → refused n p ≡ passed m → m ≡ refused n p
stopped (refused n' p') e = cc
stopped (accepted a) e = let z : ◌≡◌ {A = ℕ} 0 1 = cc in absurd (omega arith)

counted : {A : Type 0} (a : A) (m : Answer (List A)) (n : ℕ) → map_answer (λ xs. n + length xs) (m >>= λ rest. accepted (a ∷ rest)) ≡ map_answer (λ xs. n + 1 + length xs) m
unfolding ◌>>=◌
counted a (refused k p) n = refl
counted a (accepted xs) n = ap accepted (omega arith)

no_channels_lem : (image : Image) (left size field : ℕ) → channel_list image left size field none ≡ accepted []
unfolding channel_list
no_channels_lem image zero size field = refl
no_channels_lem image (suc left) size field = refl

module _ (image : Image) (size field l n : ℕ) where
  pub channels_end : l ≡ 0 → channels_from image size field l n ≡ accepted n
  unfolding channels_from
  channels_end e = rw (e, no_channels_lem image (16384 - n) size field) (ap accepted (omega arith))

  module _ (h : l ≡ 0 → ⊥) where
    pub channels_full : n ≡ 16384 → channels_from image size field l n ≡ refused 7 field
    unfolding channels_from channel_list
    channels_full e = rw (e, not_nil l h)

    module _ (m : n < 16384) where
      one_left : 16384 - n ≡ suc (16384 - (n + 1))
      one_left = omega arith

      pub channels_shut : {r : Reason} → Shut r ≡ block_of l (opening cn_kind image l) → channels_from image size field l n ≡ refused (number_of r) field
      unfolding channels_from channel_list
      channels_shut o = rw (not_nil l h, one_left) (ap (map_answer (λ xs. n + length xs)) (stop _ (open_shut cn_kind read_cn image field l o)))

      module _ (b : Span) (s : Stands cn_kind image l b) where
        pub channels_stop : {e : Refusal} {x : Result (Unit {0}) Refusal} → done x ≡ passed (channel_at image size (opened_as read_cn image.bytes b)) → x ≡ Err e
            → channels_from image size field l n ≡ refused (number_of e.reason) e.place
        unfolding channels_from channel_list
        channels_stop d f =
            rw (not_nil l h, one_left) (ap (map_answer (λ xs. n + length xs)) (step _ (open_open cn_kind read_cn image field l b s) (stop _ (stopped _ (ap done (sym f) ∙ d)))))

        pub channels_go : {x : Result (Unit {0}) Refusal} {u : Unit {0}} → done x ≡ passed (channel_at image size (opened_as read_cn image.bytes b)) → x ≡ Ok u
            → channels_from image size field l n ≡ channels_from image size (b.at + 4) (u32 4 (block_in image.bytes b)) (n + 1)
        unfolding channels_from channel_list read_cn
        channels_go d f =
            let g = went (channel_at image size (opened_as read_cn image.bytes b)) (ap done (sym f) ∙ d) in
            rw (not_nil l h, one_left)
            (ap (map_answer (λ xs. n + length xs)) (step _ (open_open cn_kind read_cn image field l b s) (step _ g.1 refl))
            ∙ counted g.0 _ n
            ∙ ap (λ p. map_answer (λ xs. n + 1 + length xs) (channel_list image (16384 - (n + 1)) size (p + 4) (to_link (u32 4 (block_in image.bytes b))))) (sym s.place))
