-- Channels side by side, and those that one group alone has.
-- Assumes nothing.
use Prim.Native.Nat.{ℕ, ◌+◌}
use mathlib.Core.Path.{◌≡◌, refl, sym, ap, ◌∙◌}
use mathlib.Core.Bool.{Bool, false}
use mathlib.Core.List.{List, [], ◌∷◌, ◌++◌}
use native.Mathlib.Omega.{arith}
use native.Mathlib.Numerals.{add-one}
use lib.ListN.{length}
use Rattle.std.specs.Prelude.{Option, Some, None}
use Rattle.reading.specs.declared.Channels.{Channels}
use Rattle.reading.specs.declared.Channel.{Channel as Handed}
use Rattle.reading.specs.Steps.{channels_left, ChannelStepIs}
use Rattle.answers.specs.Readings.{Channel}
use Rattle.answers.specs.Differences.{entry, unless, same_channel, alone, channel_entries}

-- ---- alone

pub alone_none : {A : Type 0} (kind g i : ℕ) (xs : List A) → xs ≡ [] → alone kind g i xs ≡ []
unfolding alone
alone_none kind g i xs e = rw e

pub alone_next : {A : Type 0} (kind g i j : ℕ) {xs xs' : List A} {x : A} → xs ≡ x ∷ xs' → j ≡ i + 1 → alone kind g i xs ≡ (entry kind g i 0 ∷ []) ++ alone kind g j xs'
unfolding alone
alone_next kind g i j e k = rw (e, k, add-one)

-- ---- side by side

none_right : (g i : ℕ) (cs : List Channel) → channel_entries g i cs [] ≡ alone 3 g i cs
unfolding channel_entries alone
none_right g i [] = refl
none_right g i (c ∷ cs) = refl

-- a channel of the first, and one of the second
pub both_next : (g i j : ℕ) (same : Bool) {cs ds cs' ds' : List Channel} {c d : Channel} → cs ≡ c ∷ cs' → ds ≡ d ∷ ds' → j ≡ i + 1 → same ≡ same_channel c d
    → channel_entries g i cs ds ≡ unless same (entry 3 g i 0) ++ channel_entries g j cs' ds'
unfolding channel_entries
both_next g i j same e f k s = rw (e, f, k, s, add-one)

-- or none
pub next_alone : (g i j : ℕ) (same : Bool) {cs ds cs' ds' : List Channel} {c : Channel} → cs ≡ c ∷ cs' → ds ≡ [] → ds' ≡ ds → j ≡ i + 1 → same ≡ false
    → channel_entries g i cs ds ≡ unless same (entry 3 g i 0) ++ channel_entries g j cs' ds'
next_alone g i j same {cs} {ds} {cs'} e f h k s =
    rw (h, f, s) (none_right g i cs ∙ alone_next 3 g i j e k ∙ ap (λ es. entry 3 g i 0 ∷ es) (sym (none_right g j cs')))

-- the second has as many channels before it as the first, or none behind it
abbrev pub Abreast : Channels → Channels → Type 0
Abreast c d = (channels_left d ≡ [] → ⊥) → c.index ≡ d.index

pub still_abreast : (c n d m : Channels) (u : Handed) (r : Option Handed) → ChannelStepIs c (Some u) n → ChannelStepIs d r m → Abreast c d → Abreast n m
still_abreast c n d m u None went stood a h = absurd (h (ap channels_left stood.1 ∙ stood.0))
still_abreast c n d m u (Some v) went too a h =
    went.6 ∙ ap (λ k. k + 1) (a (λ e. omega (arith, ap length (sym too.4 ∙ e)))) ∙ sym too.6

-- the first has no more
pub rest_alone : (g i j : ℕ) (cs ds : List Channel) → cs ≡ [] → ((ds ≡ [] → ⊥) → i ≡ j) → alone 3 g (j + 1) ds ≡ channel_entries g (i + 1) cs ds
unfolding channel_entries alone
rest_alone g i j cs [] e a = rw e
rest_alone g i j cs (d ∷ ds) e a = rw (e, a (λ f. omega (arith, ap length f)))
