-- The decimal digits of a number, under a name that stays opaque: `spec` has them as an abbrev, which would be written out wherever it stands.
-- Assumes nothing.
use Rattle.std.specs.Prelude.{ℕ, List}
use Rattle.spec.specs.Call.{decimal}

unfoldable pub shown : ℕ → List ℕ
shown n = decimal n
