-- The numbers of refusals, and a result as an answer of the definitions.
-- Assumes nothing.
use Rattle.std.specs.Prelude.{ℕ, Result, Ok, Err, ◌==◌, if◌then◌else◌, leb}
use Rattle.spec.specs.Answer.{Answer, refused, accepted, ◌>>=◌, require}
use Rattle.spec.specs.Walk.{most}
use Rattle.refusal.specs.declared.Reason.{Reason}
use Rattle.refusal.specs.declared.Reason.TheVariants.{TooLong, NoMdf, Unfinalized, Identification, BlockHead, Unsupported, TooMany, RecordId, Channel, RecordSize, Record, CopyTooLong, NoRoom, NoSuch, NoSample, NoPhysical, BlockIdentifier, BlockSize, BlockEnd}
use Rattle.refusal.specs.declared.Refusal.{Refusal}

abbrev pub number_of : Reason → ℕ
number_of TooLong = 1
number_of NoMdf = 2
number_of Unfinalized = 3
number_of Identification = 4
number_of BlockHead = 5
number_of Unsupported = 6
number_of TooMany = 7
number_of RecordId = 8
number_of Channel = 9
number_of RecordSize = 10
number_of Record = 11
number_of CopyTooLong = 12
number_of NoRoom = 13
number_of NoSuch = 14
number_of NoSample = 15
number_of NoPhysical = 16
number_of BlockIdentifier = 17
number_of BlockSize = 18
number_of BlockEnd = 19

-- a result of the code as an answer, what it holds seen by `view`
abbrev pub answer_of : {A B : Type 0} → (A → B) → Result A Refusal → Answer B
answer_of view (Ok a) = accepted (view a)
answer_of view (Err e) = refused (number_of e.reason) e.place

-- the reason with this number; of a number that no refusal of a block has, the first
abbrev pub reason_of : ℕ → Reason
reason_of n =
    if n == 2 then NoMdf else
    if n == 3 then Unfinalized else
    if n == 5 then BlockHead else
    if n == 17 then BlockIdentifier else
    if n == 18 then BlockSize else
    if n == 19 then BlockEnd else TooLong

-- a result that holds nothing, as an answer
abbrev pub done : Result (Unit {0}) Refusal → Answer (Unit {0})
done = answer_of (λ u. u)

-- what is to be written is not too long, and there is room for it
unfoldable pub fitting : ℕ → ℕ → Answer (Unit {0})
fitting length room = do
  _ ← require (leb length most) 12 0
  require (leb length room) 13 length
