-- Where a block that does not open is told. Document 02, CR 3; docs/RULES.md, 2.4 and 5.1. Proofs: proofs/Links.antt.
-- Assumes nothing.
use Rattle.std.specs.Prelude.{ℕ, ◌+◌, ◌≡◌, ◌⊎◌, List, [], ◌∷◌}
use Rattle.std.proofs.Math.Option.{some}
use Rattle.std.proofs.Math.ListN.{get_elem?}
use Rattle.spec.specs.Bytes.{link}
use Rattle.spec.specs.Answer.{refused, accepted}
use Rattle.spec.specs.Block.{Kind, hd_kind, dg_kind, cg_kind, cn_kind, cc_kind, tx_kind, pr_kind, ce_kind, Image, image_of, opening}
use Rattle.spec.specs.Walk.{walk}
use Rattle.spec.specs.Opening.{OneOfFour}

-- a link to a block: the kind of block that has it, its offset there, the kind that it leads to
pub record Link : Type 0 where
  pub from : Kind
  pub offset : ℕ
  pub to : Kind

abbrev pub links : List Link
links =
    record { from = hd_kind; offset = 4; to = dg_kind }
    ∷ record { from = hd_kind; offset = 8; to = tx_kind }
    ∷ record { from = hd_kind; offset = 12; to = pr_kind }
    ∷ record { from = dg_kind; offset = 4; to = dg_kind }
    ∷ record { from = dg_kind; offset = 8; to = cg_kind }
    ∷ record { from = cg_kind; offset = 4; to = cg_kind }
    ∷ record { from = cg_kind; offset = 8; to = cn_kind }
    ∷ record { from = cg_kind; offset = 12; to = tx_kind }
    ∷ record { from = cn_kind; offset = 4; to = cn_kind }
    ∷ record { from = cn_kind; offset = 8; to = cc_kind }
    ∷ record { from = cn_kind; offset = 12; to = ce_kind }
    ∷ record { from = cn_kind; offset = 20; to = tx_kind }
    ∷ record { from = cn_kind; offset = 218; to = tx_kind }
    ∷ record { from = cn_kind; offset = 222; to = tx_kind }
    ∷ []

-- a block of the link's kind opens at p, and there this link of the list leads to t
pub record Leads (image : Image) (l : Link) (p t : ℕ) : Type 0 where
  pub index : ℕ
  pub listed : get_elem? links index ≡ some l
  pub block : List ℕ
  pub opens : opening l.from image p ≡ accepted block
  pub points : link l.offset block ≡ some t

-- the places that links lead to, from HD on, each with the kind of block that is wanted there
pub data Reached (image : Image) : Kind → ℕ → Type 0 where
  header : Reached image hd_kind 64
  behind : (l : Link) (p t : ℕ) → Reached image l.from p → Leads image l p t → Reached image l.to t

-- a refusal of an image with one of the four is that of HD, at 64, or that of the block behind a link of a block that is reached, at the link's field
abbrev pub FaultIsToldAtItsLink : Type 0
FaultIsToldAtItsLink =
    (a : List ℕ) (n q : ℕ)
    → walk a ≡ refused n q
    → OneOfFour n
    → ((q ≡ 64) × (opening hd_kind (image_of a) 64 ≡ refused n 0))
    ⊎ ((l : Link)
    × (p : ℕ)
    × (t : ℕ)
    × Reached (image_of a) l.from p
    × Leads (image_of a) l p t
    × (opening l.to (image_of a) t ≡ refused n 0)
    × (q ≡ p + l.offset))
