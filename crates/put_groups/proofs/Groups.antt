-- The length of a group, and its bytes.
-- Assumes nothing.
use Prim.Native.Nat.{ℕ, ◌+◌, ◌*◌, ◌≤◌, min}
use mathlib.Core.Path.{◌≡◌, refl, sym, ◌∙◌, ap, ap₂}
use mathlib.Core.List.{List, [], ◌∷◌, ◌++◌, append_assoc, append-nil}
use mathlib.Core.Option.{Option}
use Rattle.std.specs.Prelude.{Option as Optional, Some, None, is_some, not, nat_eq}
use borrow.Author.Tests.{ne_eqb}
use native.Mathlib.Omega.{arith}
use Rattle.std.proofs.Math.Logic.{∥∥₁_elim}
use Rattle.std.specs.Coded.{codes}
use native.Mathlib.Nat.{zero-mul, suc-mul}
use lib.ListN.{length, length-append}
use Rattle.answers.specs.Readings.{All, join, target, tx_kind}
use Rattle.answers.specs.Readings.{Group as ReadGroup}
use Rattle.answers.specs.Copies.{link_to, link_to_first, body_length, body_bytes, channels_length, channels_bytes, records_length, group_length, groups_length, group_bytes, groups_bytes, dg_of, cg_of}
use Rattle.answers.proofs.Laws.{length_body, length_channels, length_group}
use Rattle.blocks.specs.Blocks.{dg_bytes, cg_bytes}
use Rattle.blocks.proofs.Written.{dg_written_lem, cg_written_lem}
use Rattle.write.specs.Write.{Wrote, then, wrote_as}
use Rattle.reading.specs.declared.Group.{Group}
use Rattle.write.specs.Progress.{Progress}
use Rattle.write.specs.Progress as writing
use Rattle.reading.specs.declared.Groups.{Groups}
use Rattle.reading.specs.Promise.{log_at, due_of}
use Rattle.reading.specs.Steps.{AtKeys, KeyStep, GroupStepIs, groups_left, the_group, log_of}
use Rattle.reading.proofs.Formed.{group_formed}
use Rattle.put_records.specs.Owed.{paid, Areas}
use Rattle.put_records.specs.Dealing.{Turn}
use Rattle.put_records.proofs.Owed.{areas_more, owed_none, paid_nil, wrote_paid}
use Rattle.put_channels.specs.Written.{link_if, written_bytes}
use Rattle.put_channels.specs.Channels.{Capped}
use Rattle.put_channels.proofs.Written.{written_bytes_lem}
use Rattle.put_channels.proofs.Sums.{by_length}
use Rattle.put_groups.specs.declared.Layout.{Layout}
use Rattle.put_groups.specs.Groups.{heads_as, blocks_as, group_as}

-- ---- lengths

records_length_lem : (size : ℕ) (rs : List (List ℕ)) → All (λ r. length r ≡ size) rs → records_length rs ≡ length rs * size
records_length_lem size [] a = sym (zero-mul size)
records_length_lem size (r ∷ rs) a = ap₂ ◌+◌ a.0 (records_length_lem size rs a.1) ∙ sym (suc-mul (length rs) size ∙ omega arith)

-- of a group, from the sum over its channels
module _ (l : Layout) where
  abbrev g : ReadGroup
  g = the_group l.group

  added : group_length g ≡ 58 + body_length g.comment + channels_length g.channels + length g.records * g.record_size
  added =
      let r : records_length g.records ≡ length g.records * g.record_size = group_formed l.group (λ ok. records_length_lem g.record_size g.records ok.records) in
      omega (arith, r)

  pub layout_capped : (n : ℕ) → n ≡ 58 + body_length g.comment + l.channels.length + length g.records * g.record_size → Capped (min n 2147483648) (group_length g)
  layout_capped n e =
      by_length l.summed.length
      (λ x. record { exact = λ m. omega (arith, added, e, x); over = λ m. omega (arith, added, e, x) })
      (λ h k. record { exact = λ m. absurd (omega (arith, added)); over = λ m. omega (arith, e) })

  -- where the copy is not too long
  module _ (few : group_length g ≤ 2147483647) where
    pub channels_long : l.channels.length ≡ channels_length g.channels
    channels_long = l.summed.length.exact (omega (arith, added))

    pub channels_many : l.channels.count ≡ length g.channels
    channels_many = l.summed.count (omega (arith, added))

-- ---- bytes

pub link_if_lem : {A : Type 0} (p : ℕ) (xs : List A) → link_if (not (nat_eq (length xs) 0)) p ≡ target (link_to_first p xs)
link_if_lem p [] = refl
link_if_lem p (x ∷ xs) = ap (λ none. link_if (not none) p) (ne_eqb (length (x ∷ xs)) 0 (λ e. omega arith))

-- the bytes of a group by the definition
group_as_lem : (at : ℕ) (next : Option ℕ) (g : ReadGroup) → group_bytes at next g ≡ group_as at (target next) g
unfolding group_bytes group_as blocks_as heads_as
group_as_lem at next g =
    let e : at + 28 + 30 ≡ at + 58 = omega arith in
    ap₂ (λ x y. x ++ (y ++ rest)) (dg_written_lem (dg_of at next g) refl refl) (cg_written_lem (length g.channels) (cg_of at g) refl refl refl)
    ∙ rw (e, append-nil (join g.records), append_assoc, append_assoc, append_assoc)
  where
    rest : List ℕ
    rest = body_bytes tx_kind g.comment ++ (channels_bytes (at + 28 + 30 + body_length g.comment) g.channels ++ (join g.records ++ []))

heads_length : (at next : ℕ) (g : ReadGroup) → length (heads_as at next g) ≡ 58
unfolding heads_as dg_bytes cg_bytes
heads_length at next g = refl

pub heads_as_lem : (at next cn m recs first text n size count : ℕ) (g : ReadGroup)
    → cn ≡ at + 58 + body_length g.comment
    → m ≡ channels_length g.channels
    → recs ≡ link_if (not (nat_eq count 0)) (at + 58 + body_length g.comment + m)
    → first ≡ link_if (not (nat_eq n 0)) cn
    → text ≡ target (link_to (at + 58) g.comment)
    → n ≡ length g.channels
    → size ≡ g.record_size
    → count ≡ length g.records
    → dg_bytes next (at + 28) recs ++ cg_bytes first text n size count ≡ heads_as at next g
unfolding heads_as
heads_as_lem at next cn m recs first text n size count g e₁ e₂ e₃ e₄ e₅ e₆ e₇ e₈ =
    rw (e₃, e₄, e₅, e₂, e₁, e₆, e₇, e₈, link_if_lem, link_if_lem)

pub dg_length : (next group records : ℕ) → length (dg_bytes next group records) ≡ 28
unfolding dg_bytes
dg_length next group records = refl

-- ---- writing

module _ (l : Layout) (next : ℕ) where
  abbrev laid : ReadGroup
  laid = the_group l.group

  pub blocks_written : {o₀ o₁ o₂ o₃ : List ℕ}
      → Wrote o₀ o₁ l.at (heads_as l.at next laid)
      → Wrote o₁ o₂ (l.at + 58) (written_bytes 84 88 l.comment)
      → Wrote o₂ o₃ (l.at + 58 + body_length laid.comment) (channels_bytes (l.at + 58 + body_length laid.comment) laid.channels)
      → Wrote o₀ o₃ l.at (blocks_as l.at next laid)
  unfolding blocks_as
  blocks_written w₁ w₂ w₃ =
      let l₁ = heads_length l.at next laid in
      let l₂ = length_body tx_kind laid.comment in
      ∥∥₁_elim l.commented (hlevel codes) λ b.
      then
      (then w₁ (wrote_as w₂ refl (written_bytes_lem tx_kind l.comment b)) (omega (arith, l₁)))
      w₃ (rw length-append (omega (arith, l₁, l₂)))

  pub blocks_end : group_length laid ≤ 2147483647 → l.at + 58 + body_length laid.comment + l.channels.length ≡ l.at + length (blocks_as l.at next laid)
  unfolding blocks_as
  blocks_end few =
      let l₁ = heads_length l.at next laid in
      let l₂ = length_body tx_kind laid.comment in
      let l₃ = group_formed l.group (λ ok. length_channels laid.record_size (l.at + 58 + body_length laid.comment) laid.channels ok.channels) in
      rw (length-append, length-append) (omega (arith, l₁, l₂, l₃, channels_long l few))

-- the first of a list of groups, and the rest behind it
groups_cons : (p q : ℕ) (g : ReadGroup) (gs : List ReadGroup) → q ≡ p + group_length g → groups_bytes p (g ∷ gs) ≡ group_as p (target (link_to_first q gs)) g ++ groups_bytes q gs
unfolding groups_bytes
groups_cons p q g gs e = rw e (ap (λ xs. xs ++ groups_bytes (p + group_length g) gs) (group_as_lem p (link_to_first (p + group_length g) gs) g))

-- the link to the groups that are left, by a step of the cursor ahead
pub next_group_link : (p : ℕ) (c n : Groups) (o : Optional Group) → GroupStepIs c o n → link_if (is_some o) p ≡ target (link_to_first p (groups_left c))
next_group_link p c n None s = sym (ap (λ gs. target (link_to_first p gs)) s.0)
next_group_link p c n (Some g) s = sym (ap (λ gs. target (link_to_first p gs)) s.3)

groups_nil : (p : ℕ) → groups_bytes p [] ≡ []
unfolding groups_bytes
groups_nil p = refl

group_long : (at : ℕ) (next : Option ℕ) (x : Group) → length (group_as at (target next) (the_group x)) ≡ group_length (the_group x)
group_long at next x = group_formed x (λ ok. ap length (sym (group_as_lem at next (the_group x))) ∙ length_group at next (the_group x) ok)

-- ---- a turn of the loop over the groups

-- all before `to` is written, but for what is owed
pub record Copying (c₀ c : Groups) (at to : ℕ) (places out₀ out : List ℕ) : Type 0 where
  pub keys : List ℕ
  pub stands : AtKeys c keys
  pub areas : Areas places (due_of (log_at c.image.now c.index)) keys to
  pub progress : Progress (groups_bytes at (groups_left c₀)) out₀ (paid places (due_of (log_at c.image.now c.index)) keys out) at to (groups_bytes to (groups_left c))

pub copying_starts : (c : Groups) {at : ℕ} {places out : List ℕ} → AtKeys c [] → Copying c c at at places out out
copying_starts c {at} {places} {out} t =
    let due = due_of (log_at c.image.now c.index) in
    record { keys = []; stands = t; areas = owed_none places due at; progress = rw (paid_nil places due out) writing.start }

pub copying_ends : (c₀ c n : Groups) {at to : ℕ} {places out₀ out : List ℕ} → Copying c₀ c at to places out₀ out → GroupStepIs c None n → Wrote out₀ out at (groups_bytes at (groups_left c₀))
copying_ends c₀ c n {at} {to} {places} {out₀} {out} f e =
    let k = e.1 f.keys f.stands in
    let p = rw (k, paid_nil places (due_of (log_at c.image.now c.index)) out) at f.progress in
    (writing.finish p (ap (groups_bytes to) e.0 ∙ groups_nil to)).0

-- group x is next, l is its layout, k its length, and its blocks are written; its records are to stand at q
module _ {c₀ c : Groups} {at to : ℕ} {places out₀ out : List ℕ} (f : Copying c₀ c at to places out₀ out) (few : groups_length (groups_left c) ≤ 2147483647)
    (x : Group) (n : Groups) (w : GroupStepIs c (Some x) n) (l : Layout) (laid_out : (l.at ≡ to) × (the_group l.group ≡ the_group x)) (k : ℕ) (s : Capped k (group_length (the_group l.group)))
    (o : Optional Group) (m : Groups) (ahead : GroupStepIs n o m) {next q : ℕ} (link : next ≡ link_if (is_some o) (to + k))
    {out₁ : List ℕ} (b : Wrote out out₁ l.at (blocks_as l.at next (the_group l.group))) (r : q ≡ l.at + 58 + body_length (the_group l.group).comment + l.channels.length) where
  pub small : group_length (the_group l.group) ≤ 2147483647
  small = omega (arith, ap group_length laid_out.1, ap groups_length w.3)

  exact : to + k ≡ to + group_length (the_group x)
  exact = omega (arith, s.exact small, ap group_length laid_out.1)

  linked : Wrote out out₁ to (blocks_as to (target (link_to_first (to + k) (groups_left n))) (the_group x)) × (q ≡ to + length (blocks_as to (target (link_to_first (to + k) (groups_left n))) (the_group x)))
  linked =
      let stands : Wrote out out₁ l.at (blocks_as l.at next (the_group l.group)) × (q ≡ l.at + length (blocks_as l.at next (the_group l.group))) = (b, r ∙ blocks_end l next small) in
      rw (link, next_group_link (to + k) n m o ahead, laid_out.0, laid_out.1) at stands

  -- where its records end
  records_end : q + length (join (the_group x).records) ≡ to + k
  unfolding group_as
  records_end = omega (arith, linked.1, exact, simp length-append at (group_long to (link_to_first (to + k) (groups_left n)) x))

  areas_here : Areas places (due_of (log_of x)) f.keys q
  areas_here = rw (w.0, w.2) (areas_more places (due_of (log_at c.image.now c.index)) f.keys to q f.areas (omega (arith, linked.1)))

  pub records_here : (q + length (join (the_group x).records) ≡ to + k) × ((keys : List ℕ) × KeyStep keys x n × Areas places (due_of (log_of x)) keys q)
  records_here = (records_end, (f.keys, w.5 f.keys f.stands, areas_here))

  pub copying_turn : {places' out₂ : List ℕ} → ((keys : List ℕ) → KeyStep keys x n → Areas places (due_of (log_of x)) keys q → Turn x n places out₁ places' out₂ q keys) → Copying c₀ n at (to + k) places' out₀ out₂
  unfolding group_as
  copying_turn {places'} {out₂} t =
      let u = t f.keys (w.5 f.keys f.stands) areas_here in
      let h = rw (← w.0, ← w.2) at w.3 in
      let p = rw (← w.0, ← w.2) at f.progress in
      let a = rw (← w.0, ← w.2) at f.areas in
      let wrote = then (wrote_paid places (due_of (log_of x)) f.keys to a (omega arith) linked.0) u.wrote linked.1 in
      record {
        keys = u.keys';
        stands = u.stands;
        areas = areas_more places' (due_of (log_at n.image.now n.index)) u.keys' _ (to + k) u.areas (omega (arith, records_end));
        progress =
            writing.step (group_as to (target (link_to_first (to + k) (groups_left n))) (the_group x)) (to + k) p
            (ap (groups_bytes to) h ∙ groups_cons to (to + k) (the_group x) (groups_left n) exact) wrote
            (exact ∙ sym (ap (λ k. to + k) (group_long to (link_to_first (to + k) (groups_left n)) x)));
      }
