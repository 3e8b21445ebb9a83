-- The blocks of the format: identifier, least and written size, fields, and how a block opens. Document 01, Blocks; docs/RULES.md, 2.
-- Assumes nothing.
use Rattle.std.specs.Prelude.{ℕ, ◌+◌, ◌*◌, ◌-◌, Bool, cond, ◌||◌, List, [], ◌∷◌, leb, ltb, eqb, length, take, drop}
use Rattle.std.proofs.Math.Option.{Option, none, some}
use Rattle.spec.specs.Bytes.{number, same_bytes, bytes_of, join, field, u16, u32, link, link_bytes}
use Rattle.spec.specs.Answer.{Answer, accepted, ◌>>=◌, require, at_place}

-- ---- the table's first columns (2.4)

-- a kind of block: the two characters of its identifier, and its least size
pub record Kind : Type 0 where
  pub first : ℕ
  pub second : ℕ
  pub least : ℕ

abbrev pub identifier : Kind → List ℕ
identifier k = k.first ∷ k.second ∷ []

abbrev pub hd_kind : Kind
hd_kind = record { first = 72; second = 68; least = 164 }

abbrev pub dg_kind : Kind
dg_kind = record { first = 68; second = 71; least = 24 }

abbrev pub cg_kind : Kind
cg_kind = record { first = 67; second = 71; least = 26 }

abbrev pub cn_kind : Kind
cn_kind = record { first = 67; second = 78; least = 218 }

abbrev pub cc_kind : Kind
cc_kind = record { first = 67; second = 67; least = 46 }

abbrev pub tx_kind : Kind
tx_kind = record { first = 84; second = 88; least = 4 }

abbrev pub pr_kind : Kind
pr_kind = record { first = 80; second = 82; least = 4 }

abbrev pub ce_kind : Kind
ce_kind = record { first = 67; second = 69; least = 6 }

-- the sizes in which blocks are written. CC, CE, TX and PR are written at their own size
abbrev pub id_size : ℕ
id_size = 64

abbrev pub hd_written : ℕ → ℕ
hd_written version = cond (ltb version 320) 164 208

abbrev pub dg_written : ℕ
dg_written = 28

abbrev pub cg_written : ℕ
cg_written = 30

abbrev pub cn_written : ℕ
cn_written = 228

-- every block but ID begins with identifier and size
abbrev pub head_size : ℕ
head_size = 4

-- ---- ID

-- "MDF" and five spaces; "UnFinMF" and one
abbrev pub finalized : List ℕ
finalized = 77 ∷ 68 ∷ 70 ∷ 32 ∷ 32 ∷ 32 ∷ 32 ∷ 32 ∷ []

abbrev pub unfinalized : List ℕ
unfinalized = 85 ∷ 110 ∷ 70 ∷ 105 ∷ 110 ∷ 77 ∷ 70 ∷ 32 ∷ []

abbrev pub byte_order : List ℕ → ℕ
byte_order ident = u16 24 ident

abbrev pub float_format : List ℕ → ℕ
float_format ident = u16 26 ident

abbrev pub version_of : List ℕ → ℕ
version_of ident = u16 28 ident

-- an image, with what its ID says of the form of the other blocks
pub record Image : Type 0 where
  pub bytes : List ℕ
  pub version : ℕ

abbrev pub image_of : List ℕ → Image
image_of bytes = record { bytes = bytes; version = version_of (take id_size bytes) }

-- ---- opening (2.2)

-- the size field of a block at p
abbrev pub size_at : Image → ℕ → ℕ
size_at image p = number (take 2 (drop 2 (drop p image.bytes)))

-- all bytes of the block of this kind at p. Else 5 for its head, 17 for its identifier, 18 for its size, 19 for its end (document 02, CR 3)
-- A refusal has place 0 here; `open_block` sets the link field
unfoldable pub opening : Kind → Image → ℕ → Answer (List ℕ)
opening k image p = do
  _ ← require (leb (p + head_size) (length image.bytes)) 5 0
  _ ← require (same_bytes (take 2 (drop p image.bytes)) (identifier k)) 17 0
  _ ← require (leb k.least (size_at image p)) 18 0
  _ ← require (leb (p + size_at image p) (length image.bytes)) 19 0
  accepted (take (size_at image p) (drop p image.bytes))

-- the same, refused at the link field that leads there
unfoldable pub open_block : Kind → Image → ℕ → ℕ → Answer (List ℕ)
open_block k image link_field p = at_place link_field (opening k image p)

-- an opened block: where it stands, how long it is, what was read of it
pub record Opened (A : Type 0) : Type 0 where
  pub place : ℕ
  pub size : ℕ
  pub content : A

abbrev pub open_as : {A : Type 0} → Kind → (List ℕ → A) → Image → ℕ → ℕ → Answer (Opened A)
open_as k read image link_field p = do
  block ← open_block k image link_field p
  accepted (record { place = p; size = length block; content = read block })

-- ---- bodies

-- of CC, CE, TX and PR: every byte after the head
abbrev pub body_of : List ℕ → List ℕ
body_of block = drop head_size block

-- the body behind a link, absent where the link is nil
unfoldable pub body_at : Kind → Image → ℕ → Option ℕ → Answer (Option (Opened (List ℕ)))
body_at k image link_field none = accepted none
body_at k image link_field (some p) = do
  block ← open_as k body_of image link_field p
  accepted (some block)

-- UINT16 at 42 of a CC, in its body
abbrev pub formula : List ℕ → ℕ
formula body = u16 (42 - 4) body

-- ---- the fields of each block, as they are read and as they are written

pub record HdBlock : Type 0 where
  pub first_group : Option ℕ
  pub comment : Option ℕ
  pub program : Option ℕ
  pub plain : List ℕ  -- bytes 18 to 163
  pub later : List ℕ  -- bytes 164 to 207, from version 320 on

-- the four fields since version 320 are zero one by one where they are not inside the size
unfoldable pub read_hd : ℕ → List ℕ → HdBlock
read_hd version hd =
    record {
      first_group = link 4 hd;
      comment = link 8 hd;
      program = link 12 hd;
      plain = field 146 18 hd;
      later = cond (ltb version 320) [] (join (field 8 164 hd ∷ field 2 172 hd ∷ field 2 174 hd ∷ field 32 176 hd ∷ []));
    }

-- groups: the number of data groups
unfoldable pub write_hd : ℕ → ℕ → HdBlock → List ℕ
write_hd version groups hd =
    join
    (identifier hd_kind
    ∷ bytes_of 2 (hd_written version)
    ∷ link_bytes hd.first_group
    ∷ link_bytes hd.comment
    ∷ link_bytes hd.program
    ∷ bytes_of 2 groups
    ∷ hd.plain
    ∷ hd.later
    ∷ [])

pub record DgBlock : Type 0 where
  pub next : Option ℕ
  pub first_group : Option ℕ
  pub trigger : Option ℕ
  pub records : Option ℕ  -- the data link
  pub mode : ℕ  -- 0: no record ID, 1: one before each record, 2: one before and one after

unfoldable pub read_dg : List ℕ → DgBlock
read_dg dg = record { next = link 4 dg; first_group = link 8 dg; trigger = link 12 dg; records = link 16 dg; mode = u16 22 dg }

-- one channel group; the reserved field is 0
unfoldable pub write_dg : DgBlock → List ℕ
write_dg dg =
    join
    (identifier dg_kind
    ∷ bytes_of 2 dg_written
    ∷ link_bytes dg.next
    ∷ link_bytes dg.first_group
    ∷ link_bytes dg.trigger
    ∷ link_bytes dg.records
    ∷ bytes_of 2 1
    ∷ bytes_of 2 dg.mode
    ∷ bytes_of 4 0
    ∷ [])

pub record CgBlock : Type 0 where
  pub next : Option ℕ
  pub first_channel : Option ℕ
  pub comment : Option ℕ
  pub record_id : ℕ
  pub record_size : ℕ
  pub record_count : ℕ
  pub reduction : Option ℕ  -- from version 330 on

-- below version 330 the sample reduction link is nil, whatever stands there and whatever the size (2.5)
unfoldable pub read_cg : ℕ → List ℕ → CgBlock
read_cg version cg =
    record {
      next = link 4 cg;
      first_channel = link 8 cg;
      comment = link 12 cg;
      record_id = u16 16 cg;
      record_size = u16 20 cg;
      record_count = u32 22 cg;
      reduction = cond (ltb version 330) none (link 26 cg);
    }

-- channels: the number of channels
unfoldable pub write_cg : ℕ → CgBlock → List ℕ
write_cg channels cg =
    join
    (identifier cg_kind
    ∷ bytes_of 2 cg_written
    ∷ link_bytes cg.next
    ∷ link_bytes cg.first_channel
    ∷ link_bytes cg.comment
    ∷ bytes_of 2 cg.record_id
    ∷ bytes_of 2 channels
    ∷ bytes_of 2 cg.record_size
    ∷ bytes_of 4 cg.record_count
    ∷ link_bytes cg.reduction
    ∷ [])

-- the fields of a CN block that the reading carries
pub record Fields : Type 0 where
  pub main : List ℕ  -- bytes 24 to 217
  pub added : List ℕ  -- bytes 226 and 227

abbrev pub read_fields : List ℕ → Fields
read_fields cn = record { main = field 194 24 cn; added = field 2 226 cn }

-- its numbers, each by its offset in the block
abbrev pub channel_type : Fields → ℕ
channel_type f = u16 (24 - 24) f.main

abbrev pub start_bit : Fields → ℕ
start_bit f = u16 (186 - 24) f.main

abbrev pub bit_count : Fields → ℕ
bit_count f = u16 (188 - 24) f.main

abbrev pub data_type : Fields → ℕ
data_type f = u16 (190 - 24) f.main

abbrev pub added_offset : Fields → ℕ
added_offset f = number f.added

-- the bits of a channel lie in a record of this size; with no bits they do
abbrev pub bits_fit : ℕ → Fields → Bool
bits_fit size f = eqb (bit_count f) 0 || leb (start_bit f + 8 * added_offset f + bit_count f) (8 * size)

pub record CnBlock : Type 0 where
  pub next : Option ℕ
  pub conversion : Option ℕ
  pub extension : Option ℕ
  pub dependency : Option ℕ
  pub comment : Option ℕ
  pub fields : Fields
  pub long_name : Option ℕ
  pub display_name : Option ℕ

unfoldable pub read_cn : List ℕ → CnBlock
read_cn cn =
    record {
      next = link 4 cn;
      conversion = link 8 cn;
      extension = link 12 cn;
      dependency = link 16 cn;
      comment = link 20 cn;
      fields = read_fields cn;
      long_name = link 218 cn;
      display_name = link 222 cn;
    }

unfoldable pub write_cn : CnBlock → List ℕ
write_cn cn =
    join
    (identifier cn_kind
    ∷ bytes_of 2 cn_written
    ∷ link_bytes cn.next
    ∷ link_bytes cn.conversion
    ∷ link_bytes cn.extension
    ∷ link_bytes cn.dependency
    ∷ link_bytes cn.comment
    ∷ cn.fields.main
    ∷ link_bytes cn.long_name
    ∷ link_bytes cn.display_name
    ∷ cn.fields.added
    ∷ [])
