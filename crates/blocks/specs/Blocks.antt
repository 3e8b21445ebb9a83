-- The bytes of the blocks that are written, over numbers and bytes. Each number is written by its low bytes.
-- What is all numbers is an abbrev, so that it computes to its bytes in the proofs of the functions that write it.
-- Assumes nothing.
use Rattle.std.specs.Prelude.{ℕ, ◌+◌, List, ◌∷◌, ◌++◌, length, get_or}
use Rattle.spec.specs.Bytes.{bytes_of}
use Rattle.spec.specs.Block.{Kind, identifier, hd_kind, dg_kind, cg_kind, cn_kind, dg_written, cg_written, cn_written}
pub use Rattle.image.specs.Spans.{kind_of}

-- no trigger, one channel group, mode 0
abbrev pub dg_parts : ℕ → ℕ → ℕ → List ℕ
dg_parts next group records =
    identifier dg_kind
    ++ bytes_of 2 dg_written
    ++ bytes_of 4 next
    ++ bytes_of 4 group
    ++ bytes_of 4 0
    ++ bytes_of 4 records
    ++ bytes_of 2 1
    ++ bytes_of 2 0
    ++ bytes_of 4 0

unfoldable pub dg_bytes : ℕ → ℕ → ℕ → List ℕ
dg_bytes next group records = dg_parts next group records

-- no next group, record ID 0, no sample reduction
abbrev pub cg_parts : ℕ → ℕ → ℕ → ℕ → ℕ → List ℕ
cg_parts first_channel comment channels size count =
    identifier cg_kind
    ++ bytes_of 2 cg_written
    ++ bytes_of 4 0
    ++ bytes_of 4 first_channel
    ++ bytes_of 4 comment
    ++ bytes_of 2 0
    ++ bytes_of 2 channels
    ++ bytes_of 2 size
    ++ bytes_of 4 count
    ++ bytes_of 4 0

unfoldable pub cg_bytes : ℕ → ℕ → ℕ → ℕ → ℕ → List ℕ
cg_bytes first_channel comment channels size count = cg_parts first_channel comment channels size count

-- before the bytes 24 to 217, with no dependency, and behind them
abbrev pub cn_head : ℕ → ℕ → ℕ → ℕ → List ℕ
cn_head next cc ce comment =
    identifier cn_kind
    ++ bytes_of 2 cn_written
    ++ bytes_of 4 next
    ++ bytes_of 4 cc
    ++ bytes_of 4 ce
    ++ bytes_of 4 0
    ++ bytes_of 4 comment

abbrev pub cn_names : ℕ → ℕ → List ℕ
cn_names long display = bytes_of 4 long ++ bytes_of 4 display

unfoldable pub cn_bytes : ℕ → ℕ → ℕ → ℕ → List ℕ → ℕ → ℕ → List ℕ → List ℕ
cn_bytes next cc ce comment main long display added = ((cn_head next cc ce comment ++ main) ++ cn_names long display) ++ added

-- before the bytes 18 to 163
abbrev pub hd_head : ℕ → ℕ → ℕ → ℕ → ℕ → List ℕ
hd_head size first comment program groups =
    identifier hd_kind ++ bytes_of 2 size ++ bytes_of 4 first ++ bytes_of 4 comment ++ bytes_of 4 program ++ bytes_of 2 groups

unfoldable pub hd_bytes : ℕ → ℕ → ℕ → ℕ → ℕ → List ℕ → List ℕ → List ℕ
hd_bytes size first comment program groups plain later = (hd_head size first comment program groups ++ plain) ++ later

-- what a block begins with: the two bytes of its identifier, and its size
abbrev pub block_head : List ℕ → ℕ → List ℕ
block_head id size = get_or id 0 0 ∷ get_or id 1 0 ∷ bytes_of 2 size

-- a block that is all body
unfoldable pub block_bytes : Kind → List ℕ → List ℕ
block_bytes k bytes = identifier k ++ (bytes_of 2 (4 + length bytes) ++ bytes)
