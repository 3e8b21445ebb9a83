-- A body of the image, as the code hands it out.
-- Assumes nothing.
use Rattle.std.specs.Prelude.{ℕ, ◌+◌, ◌<◌, ◌≤◌, ◌≡◌, List, Option, Some, None, IfSome, length, take, drop}
use Rattle.std.specs.Borrow.{Bor}
use Rattle.std.proofs.Math.Option.{none, some}
use Rattle.spec.specs.Reading.{Body}

-- the bytes that are handed out
abbrev pub body_held : Option (Bor (List ℕ)) → Body
body_held None = none
body_held (Some b) = some b.now

-- with identifier and size they fit a block
abbrev pub BodySmall : Option (Bor (List ℕ)) → Type 0
BodySmall None = Unit {0}
BodySmall (Some b) = length b.now + 4 < 65536

pub record BodyIs (r : Option (Bor (List ℕ))) (b : Body) : Type 0 where
  pub is : body_held r ≡ b
  pub small : BodySmall r

-- bytes that are a part of an image, wherever in it
pub record PartAt (image bytes : List ℕ) : Type 0 where
  pub place : ℕ
  pub inside : place + length bytes ≤ length image
  pub is : bytes ≡ take (length bytes) (drop place image)

-- bytes that stand at this place of an image
abbrev pub StandsAt : List ℕ → ℕ → List ℕ → Type 0
StandsAt image at bytes = (at + length bytes ≤ length image) × (bytes ≡ take (length bytes) (drop at image))

abbrev pub PartOf : List ℕ → List ℕ → Type 0
PartOf image bytes = ∥ PartAt image bytes ∥₁

abbrev pub BodyInside : List ℕ → Option (Bor (List ℕ)) → Type 0
BodyInside image r = IfSome r (λ b. PartOf image b.now)
