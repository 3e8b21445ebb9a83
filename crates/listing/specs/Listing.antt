-- Entries listed from a place on.
-- Assumes nothing.
use Rattle.std.specs.Prelude.{ℕ, zero, suc, ◌+◌, ◌*◌, ◌≤◌, ◌≡◌, cond, List, [], ◌∷◌, map, leb, length}
use Rattle.answers.specs.Readings.{join}
use Rattle.answers.specs.Differences.{Entry, entry, entry_bytes}
use Rattle.write.specs.Write.{Wrote}

-- a length as far as it is needed: exact up to that of the longest list
unfoldable pub capped : ℕ → ℕ
capped n = cond (leb n 2147483647) n 2147483648

unfoldable pub entries_bytes : List Entry → List ℕ
entries_bytes es = join (map entry_bytes es)

-- an entry for each of n items from item i on
unfoldable pub numbered : ℕ → ℕ → ℕ → ℕ → List Entry
numbered kind g i zero = []
numbered kind g i (suc n) = entry kind g i 0 ∷ numbered kind g (suc i) n

-- entries behind `at` bytes of a list, whose length with them is `to`. Where the output has room for them and the list is not too long they are written, and nothing else is; else of the output only its length is kept
pub record Listed (out out₁ : List ℕ) (at to : ℕ) (es : List Entry) : Type 0 where
  pub kept : length out₁ ≡ length out
  pub reached : to ≡ capped (at + 16 * length es)
  pub wrote : at + 16 * length es ≤ length out → at + 16 * length es ≤ 2147483647 → Wrote out out₁ at (entries_bytes es)
