-- Which refusal a block that does not open has, by what stands in the image. Document 02, CR 3; docs/RULES.md, 2.2 and 5.1. Proofs: proofs/Opening.antt.
-- The statements `HeadNotInside` to `BlockInside` leave no image and no place out, and no two of them overlap.
-- Assumes nothing.
use Rattle.std.specs.Prelude.{ℕ, ◌+◌, ◌≤◌, ◌<◌, ◌≡◌, ◌⊎◌, List, length, take, drop}
use Rattle.std.proofs.Math.Option.{some}
use Rattle.spec.specs.Answer.{refused, accepted}
use Rattle.spec.specs.Block.{Kind, identifier, Image, size_at, opening, open_as, body_at}

-- ---- at which test it stops

abbrev pub HeadInside : Image → ℕ → Type 0
HeadInside image p = p + 4 ≤ length image.bytes

abbrev pub Named : Kind → Image → ℕ → Type 0
Named k image p = take 2 (drop p image.bytes) ≡ identifier k

-- 5: of the 4 bytes of the head not all are in the image
abbrev pub HeadNotInside : Type 0
HeadNotInside = (k : Kind) (image : Image) (p : ℕ) → length image.bytes < p + 4 → opening k image p ≡ refused 5 0

-- 17: another identifier
abbrev pub OtherIdentifier : Type 0
OtherIdentifier = (k : Kind) (image : Image) (p : ℕ) → HeadInside image p → (Named k image p → ⊥) → opening k image p ≡ refused 17 0

-- 18: a size below the least, wherever the block ends
abbrev pub SizeBelowLeast : Type 0
SizeBelowLeast =
    (k : Kind) (image : Image) (p : ℕ) → HeadInside image p → Named k image p → size_at image p < k.least → opening k image p ≡ refused 18 0

-- 19: an end beyond the image
abbrev pub EndBeyondImage : Type 0
EndBeyondImage =
    (k : Kind) (image : Image) (p : ℕ)
    → HeadInside image p
    → Named k image p
    → k.least ≤ size_at image p
    → length image.bytes < p + size_at image p
    → opening k image p ≡ refused 19 0

-- it opens
abbrev pub BlockInside : Type 0
BlockInside =
    (k : Kind) (image : Image) (p : ℕ)
    → HeadInside image p
    → Named k image p
    → k.least ≤ size_at image p
    → p + size_at image p ≤ length image.bytes
    → opening k image p ≡ accepted (take (size_at image p) (drop p image.bytes))

-- ---- these four and no others

abbrev pub OneOfFour : ℕ → Type 0
OneOfFour n = (n ≡ 5) ⊎ ((n ≡ 17) ⊎ ((n ≡ 18) ⊎ (n ≡ 19)))

abbrev pub NoOtherFault : Type 0
NoOtherFault = (k : Kind) (image : Image) (p n q : ℕ) → opening k image p ≡ refused n q → OneOfFour n × (q ≡ 0)

-- ---- what a link gives back

-- the opening's number at the link field: of a block that is read, and of a body
abbrev pub FaultIsPassedOn : Type 1
FaultIsPassedOn =
    (A : Type 0) (k : Kind) (read : List ℕ → A) (image : Image) (link_field p n q : ℕ)
    → opening k image p ≡ refused n q
    → (open_as k read image link_field p ≡ refused n link_field) × (body_at k image link_field (some p) ≡ refused n link_field)

-- and no other refusal
abbrev pub NothingElseIsPassedOn : Type 1
NothingElseIsPassedOn =
    (A : Type 0) (k : Kind) (read : List ℕ → A) (image : Image) (link_field p n q : ℕ)
    → (open_as k read image link_field p ≡ refused n q) ⊎ (body_at k image link_field (some p) ≡ refused n q)
    → (opening k image p ≡ refused n 0) × (q ≡ link_field)
