use Rattle.std.proofs.Common.{rules, tests, ◌∙◌, ap₂}
use Rattle.std.proofs.lemmas.Iterator.{YieldsList-from_slice, YieldsList-from_zip}
use Rattle.std.proofs.lemmas.Iterator.Consumers.{YieldsList-at}
use Rattle.std.proofs.lemmas.Iterator.Search.{position_from_yields_List}
use Rattle.std.specs.Option.{unwrap_or}
use Rattle.alike.proofs.Alike.{differ, found_or_length}
use Rattle.alike.proofs.first_difference.Goals as goal

pub returns : goal.returns
returns c =
    let xs = c.args.a.now in
    let ys = c.args.b.now in
    let pairs = YieldsList-from_zip (YieldsList-at c.zip.ensures.first (YieldsList-from_slice xs (cc))) (YieldsList-from_slice ys (cc)) in
    c.unwrap_or.ensures
    ∙ ap₂ unwrap_or (position_from_yields_List differ c.position.new.self _ c.position.result c.position.ensures.ran pairs (λ x b q k. search (rules, tests))) c.min.ensures
    ∙ found_or_length xs ys
