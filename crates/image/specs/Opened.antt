-- What an opened block holds.
-- Assumes nothing.
use Rattle.std.specs.Prelude.{ℕ, List}
use Rattle.spec.specs.Block as spec
use Rattle.image.specs.declared.Opened.{Opened}
use Rattle.image.specs.Spans.{block_in, opened_as}

-- its bytes
abbrev pub bytes_of : {K : _} {g : _} → Opened K g → List ℕ
bytes_of b = block_in b.image.now b.span

-- as its reader gives it
abbrev pub read_as : {A : Type 0} {K : _} {g : _} → (List ℕ → A) → Opened K g → spec.Opened A
read_as read b = opened_as read b.image.now b.span
