use Rattle.std.proofs.Common.{rules, tests, ◌≡◌, ◌++◌, true, false, drop, sym, ◌∙◌}
use Rattle.std.proofs.lemmas.Iterator.{YieldsList-from_slice}
use Rattle.std.proofs.lemmas.Iterator.Consumers.{YieldsList-from_chain}
use Rattle.std.proofs.lemmas.Iterator.Search.{all_from_yields_List}
use borrow.Author.Tests.{eqb-true}
use Rattle.std.specs.List.{list_all}
use Rattle.alike.proofs.Alike as l
use Rattle.alike.proofs.same_padded.Goals as goal
use Rattle.alike.proofs.same_padded.Goals.{then-n-m, else-n-m}

pub returns-then-eq : goal.returns-then-eq
returns-then-eq c =
    let a = c.args in
    let r = c.requires in
    let xs = a.a.now in
    let ys = a.b.now in
    let both = c.min-both.result in
    let past = YieldsList-from_chain (YieldsList-from_slice (drop both xs) (cc)) (YieldsList-from_slice (drop both ys) (cc)) c.chain.ensures.first_done c.chain.ensures.second_done in
    let zeros : c.all.result ≡ list_all l.is_zero (drop both xs ++ drop both ys) = all_from_yields_List l.is_zero c.all.new.self _ c.all.result c.all.ensures.ran past (λ x b q k. search (rules, tests)) in
    elim c.if-n-m.branch [
      | then-n-m w ↦ zeros ∙ l.filled_same xs a.n r.0 ys a.m r.1 both c.min-both.ensures w.if-n-m.true true (cc)
      | else-n-m w ↦ absurd (w.if-n-m.false (eqb-true a.n a.m (sym w.value-is ∙ c.if-eq.true)))
    ]

pub returns-else-eq : goal.returns-else-eq
returns-else-eq c =
    let a = c.args in
    let r = c.requires in
    let both = c.min-both.result in
    c.if-eq.false ∙ elim c.if-n-m.branch [
      | then-n-m w ↦ l.filled_same a.a.now a.n r.0 a.b.now a.m r.1 both c.min-both.ensures w.if-n-m.true false (cc)
      | else-n-m w ↦ l.other_filled a.a.now a.n r.0 a.b.now a.m r.1 w.if-n-m.false
    ]
