-- The channels that are left where the next one may have been peeked.
-- Assumes nothing.
use Prim.Native.Nat.{ℕ}
use mathlib.Core.Path.{◌≡◌, refl, sym, ◌∙◌, ap}
use mathlib.Core.List.{List, [], ◌∷◌}
use denote.Ref.{Bor}
use Rattle.std.specs.Prelude.{Option, Some, None, is_some, MatchOption}
use Rattle.std.specs.Option.{option_copied}
use Rattle.std.specs.declared.iter.Ahead.{Ahead}
use Rattle.std.specs.Iterator.Adapters.{peekable_source, peekable_peeked, peekable_steps, PeeksNext}
use Rattle.answers.specs.Readings.{target}
use Rattle.answers.specs.Readings.{Channel as ReadChannel}
use Rattle.answers.specs.Copies.{link_to_first}
use Rattle.reading.specs.declared.Channel.{Channel}
use Rattle.reading.specs.declared.Channels.{Channels}
use Rattle.reading.specs.Steps.{channels_left, the_channel, ChannelStepIs}
use Rattle.put_channels.specs.Written.{link_if}

abbrev pub left_with : Option (Option Channel) → List ReadChannel → List ReadChannel
left_with None cs = cs
left_with (Some None) cs = []
left_with (Some (Some x)) cs = the_channel x ∷ cs

abbrev pub ahead_left : Ahead Channels Channel → List ReadChannel
ahead_left s = left_with (peekable_peeked s) (channels_left (peekable_source s))

step_left : (c n : Channels) (o : Option Channel) → ChannelStepIs c o n → channels_left c ≡ left_with (Some o) (channels_left n)
step_left c n None s = s.0
step_left c n (Some x) s = s.4

next_left : (p : Option (Option Channel)) (c n : Channels) (r : Option Channel) → MatchOption p (ChannelStepIs c r n) (λ o. (r ≡ o) × (n ≡ c)) → left_with p (channels_left c) ≡ left_with (Some r) (channels_left n)
next_left None c n r s = step_left c n r s
next_left (Some o) c n r s = ap (λ o. left_with (Some o) (channels_left c)) (sym s.0) ∙ ap (λ c. left_with (Some r) (channels_left c)) (sym s.1)

pub ahead_next : (s t : Ahead Channels Channel) (r : Option Channel) → peekable_steps ChannelStepIs s r t → ahead_left s ≡ left_with (Some r) (ahead_left t)
ahead_next s t r w = next_left (peekable_peeked s) (peekable_source s) (peekable_source t) r w.1 ∙ ap (λ p. left_with (Some r) (left_with p (channels_left (peekable_source t)))) (sym w.0)

link_left : (p : ℕ) (q : Option (Bor Channel)) (cs : List ReadChannel) → link_if (is_some q) p ≡ target (link_to_first p (left_with (Some (option_copied q)) cs))
link_left p None cs = refl
link_left p (Some b) cs = refl

pub ahead_peek : (p : ℕ) (s v : Ahead Channels Channel) (q : Option (Bor Channel)) → peekable_peeked s ≡ None → PeeksNext ChannelStepIs s v → peekable_peeked v ≡ Some (option_copied q)
    → (ahead_left s ≡ ahead_left v) × (link_if (is_some q) p ≡ target (link_to_first p (ahead_left v)))
ahead_peek p s v q e n k = (
  next_left (peekable_peeked s) (peekable_source s) (peekable_source v) n.0 n.1 ∙ ap (λ o. left_with o (channels_left (peekable_source v))) (sym n.2),
  rw k (link_left p q (channels_left (peekable_source v))),
)

pub ahead_start : (s : Ahead Channels Channel) (c : Channels) → peekable_source s ≡ c → peekable_peeked s ≡ None → ahead_left s ≡ channels_left c
ahead_start s c e f = ap (λ p. left_with p (channels_left (peekable_source s))) f ∙ ap channels_left e
