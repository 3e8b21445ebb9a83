-- Bodies as they are written: length, link and bytes.
-- Assumes nothing.
use Rattle.std.specs.Prelude.{ℕ, ◌+◌, Bool, true, false, List, Option, Some, None, length}
use Rattle.std.specs.Borrow.{Bor}
use Rattle.answers.specs.Copies.{body_bytes}
use Rattle.reading.specs.Bodies.{body_held}

abbrev pub written_length : Option (Bor (List ℕ)) → ℕ
written_length None = 0
written_length (Some b) = 4 + length b.now

-- the link to a place if something stands there, else nil
abbrev pub link_if : Bool → ℕ → ℕ
link_if true p = p
link_if false p = 0

-- the identifier by its two characters
abbrev pub written_bytes : ℕ → ℕ → Option (Bor (List ℕ)) → List ℕ
written_bytes a b body = body_bytes (record { first = a; second = b; least = 0 }) (body_held body)
