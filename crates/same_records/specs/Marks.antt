-- What marks by key tell of two logs.
-- Assumes nothing.
use Rattle.std.specs.Prelude.{ℕ, ◌≡◌, true, false, List, Option, IfSome, get_or}
use Rattle.reading.specs.Promise.{Keyed, records_with}
use Rattle.same_records.specs.declared.Marks.{Marks}

-- what is told, if anything: of keys without a mark both have the same records
abbrev pub Told : Option Marks → List Keyed → List Keyed → Type 0
Told told l m = IfSome told (λ marks. (k : ℕ) → get_or marks.differs k true ≡ false → records_with l k ≡ records_with m k)
