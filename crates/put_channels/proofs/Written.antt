-- What holds of a body as it is written.
-- Assumes nothing.
use Prim.Native.Nat.{ℕ}
use mathlib.Core.Path.{◌≡◌, refl, sym, ◌∙◌, ap}
use mathlib.Core.List.{List}
use lib.ListN.{length}
use denote.Ref.{Bor}
use Rattle.answers.specs.Readings.{target, Kind}
use Rattle.answers.specs.Readings.{Body as ReadBody}
use Rattle.answers.specs.Copies.{body_length, body_bytes, link_to}
use Rattle.std.specs.Prelude.{Bool, is_some, Option, Some, None}
use Rattle.answers.proofs.Laws.{length_body}
use Rattle.reading.specs.Bodies.{body_held, BodyIs}
use Rattle.put_channels.specs.Written.{written_length, link_if, written_bytes}

held_length : (r : Option (Bor (List ℕ))) → written_length r ≡ body_length (body_held r)
held_length None = refl
held_length (Some b) = refl

held_link : (p : ℕ) (r : Option (Bor (List ℕ))) → link_if (is_some r) p ≡ target (link_to p (body_held r))
held_link p None = refl
held_link p (Some b) = refl

pub written_length_lem : (r : Option (Bor (List ℕ))) {b : ReadBody} → BodyIs r b → written_length r ≡ body_length b
written_length_lem r h = held_length r ∙ ap body_length h.is

pub written_link_lem : (p : ℕ) (r : Option (Bor (List ℕ))) {b : ReadBody} → BodyIs r b → link_if (is_some r) p ≡ target (link_to p b)
written_link_lem p r h = held_link p r ∙ ap (λ b. target (link_to p b)) h.is

-- a link by whether the body is there
pub link_by : (p : ℕ) {q : ℕ} {there is : Bool} → q ≡ link_if there p → there ≡ is → q ≡ link_if is p
link_by p e f = e ∙ ap (λ there. link_if there p) f

pub written_bytes_lem : (k : Kind) (r : Option (Bor (List ℕ))) {b : ReadBody} → BodyIs r b → written_bytes k.first k.second r ≡ body_bytes k b
written_bytes_lem k r h = same k (body_held r) ∙ ap (body_bytes k) h.is
  where
    same : (k : Kind) (b : ReadBody) → body_bytes (record { first = k.first; second = k.second; least = 0 }) b ≡ body_bytes k b
    same k b = refl

pub written_as : (a b : ℕ) (r : Option (Bor (List ℕ))) → length (written_bytes a b r) ≡ written_length r
written_as a b r = length_body (record { first = a; second = b; least = 0 }) (body_held r) ∙ sym (held_length r)
