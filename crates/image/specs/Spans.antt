-- What the functions on blocks give, as the definitions of `spec` say it.
-- Assumes nothing.
use Rattle.std.specs.Prelude.{ℕ, ◌+◌, ◌≤◌, ◌&&◌, cond, List, Option, Some, None, leb, length, get_or, take, drop}
use Rattle.spec.specs.Bytes.{same_bytes, number, field}
use Rattle.spec.specs.Answer.{Answer, refused, accepted}
use Rattle.spec.specs.Block.{Kind, Opened, finalized, unfinalized}
use Rattle.image.specs.declared.Span.{Span}
use Rattle.image.specs.declared.Block.{Block}
use Rattle.image.specs.declared.Block.TheVariants.{Open, Shut}
use Rattle.refusal.specs.declared.Reason.{Reason}
use Rattle.refusal.specs.declared.Reason.TheVariants.{NoMdf, Unfinalized}
use Rattle.refusal.specs.Refused.{reason_of}

-- the number of n bytes from a place on
unfoldable pub number_at : List ℕ → ℕ → ℕ → ℕ
number_at image at n = number (take n (drop at image))

-- a kind by its identifier and its least size
abbrev pub kind_of : List ℕ → ℕ → Kind
kind_of id least = record { first = get_or id 0 0; second = get_or id 1 0; least = least }

-- an opening's answer as the code gives it
abbrev pub block_of : ℕ → Answer (List ℕ) → Block Span
block_of at (refused n p) = Shut (reason_of n)
block_of at (accepted block) = Open (record { at = at; size = length block })

-- why a block is shut; nothing of one that is open
abbrev pub fault_of : {A : Type 0} → Block A → Option Reason
fault_of (Open b) = None
fault_of (Shut r) = Some r

-- a block by what is seen of it where it is open
abbrev pub seen : {A B : Type 0} → Block A → (A → B) → Block B
seen (Open b) view = Open (view b)
seen (Shut r) view = Shut r

-- a property of a block where it is open
abbrev pub IfOpen : {A : Type 0} → Block A → (A → Type 0) → Type 0
IfOpen (Open b) P = P b
IfOpen (Shut r) P = Unit {0}

-- a block that did not open
abbrev pub IsShut : {A : Type 0} → Block A → Type 0
IsShut (Open b) = ⊥
IsShut (Shut r) = Unit {0}

-- the bytes of a block, and that they are all in the image
abbrev pub block_in : List ℕ → Span → List ℕ
block_in image b = take b.size (drop b.at image)

abbrev pub Inside : List ℕ → Span → Type 0
Inside image b = b.at + b.size ≤ length image

-- a span that a block of a kind of this least size may fill
pub record Holds (n : ℕ) (image : List ℕ) (b : Span) : Type 0 where
  pub inside : Inside image b
  pub least : n ≤ b.size

-- a field of n bytes of a block, as a number
abbrev pub field_number : List ℕ → Span → ℕ → ℕ → ℕ
field_number image b offset n = number (field n offset (block_in image b))

-- an opened block as its reader gives it
abbrev pub opened_as : {A : Type 0} → (List ℕ → A) → List ℕ → Span → Opened A
opened_as read image b = record { place = b.at; size = b.size; content = read (block_in image b) }

-- ID: the first 64 bytes, where they are there and begin with the identifier. Else it is 2, or 3 where they begin with that of an unfinalized file
unfoldable pub ident_block : List ℕ → Block Span
ident_block image =
    cond (leb 64 (length image) && same_bytes (take 8 image) finalized)
    (Open (record { at = 0; size = 64 }))
    (Shut (cond (leb 64 (length image) && same_bytes (take 8 image) unfinalized) Unfinalized NoMdf))
