use Rattle.std.proofs.lemmas.Bool.{ltb-true, ltb-false}
use Rattle.listing.specs.Listing.{capped, numbered}
use Rattle.listing.proofs.Laws as l
use Rattle.answers.specs.Differences.{entry}
use Prim.Native.Nat.{◌+◌, ◌*◌, ◌-◌}
use lib.ListN.{length}
use mathlib.Core.List.{[], ◌∷◌}
use mathlib.Core.Path.{◌≡◌, refl, sym, ap, ◌∙◌}
use native.Mathlib.Omega.{arith}
use Rattle.listing.proofs.List.numbered.Goals as goal
use Rattle.listing.proofs.List.numbered.Goals.{then-is_too_long-via-then-is_too_long, then-is_too_long-via-else-is_too_long+then-self-end}

pub returns-then-is_too_long : goal.returns-then-is_too_long
returns-then-is_too_long c =
    let a = c.args in
    let at = a.self.now.length.bytes in
    let es = numbered a.kind a.group a.item a.n in
    let reached : c.cap-end.result.bytes ≡ capped (at + 16 * length es) = c.cap-end.ensures ∙ ap (λ k. capped (at + 16 * k)) (sym (l.numbered_length a.kind a.group a.item a.n)) in
    elim c.then-is_too_long.branch [
      | then-is_too_long-via-then-is_too_long w ↦ record { lent = refl; listed = l.listed_long at es c.cap-end.result.bytes reached (ltb-true _ _ (sym c.is_too_long.ensures ∙ w.if-is_too_long.true)) }
      | then-is_too_long-via-else-is_too_long+then-self-end w ↦
          let n = l.numbered_length a.kind a.group a.item a.n in
          let short = ltb-false _ _ (sym c.is_too_long.ensures ∙ w.if-is_too_long.false) in
          let e = l.capped_short (at + 16 * a.n) (omega (arith, c.cap-end.ensures, short)) in
          record { lent = refl; listed = l.listed_short at es c.cap-end.result.bytes reached (omega (arith, w.if-self-end.true, c.cap-end.ensures)) }
    ]

pub loop-i-init : goal.loop-i-init
loop-i-init c =
    let n : c.args.item + c.args.n - c.args.item ≡ c.args.n = omega arith in
    rw n (l.begin c.args.self.now)

pub loop-i-preserved : goal.loop-i-preserved
loop-i-preserved c =
    let a = c.args in
    let i = c.loop-i.i in
    l.turn c.loop-i.invariant (entry a.kind a.group i 0 ∷ []) (l.numbered_next a.kind a.group i (a.item + a.n) c.loop-i-test.true) c.entry.ensures

pub returns : goal.returns
returns c =
    let a = c.args in
    let i = c.loop-i.i in
    let n : a.item + a.n - i ≡ 0 = omega (arith, c.loop-i-test.false) in
    l.end c.loop-i.invariant (ap (numbered a.kind a.group i) n ∙ l.numbered_none a.kind a.group i)
