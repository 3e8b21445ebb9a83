use Rattle.std.proofs.Common.{rules}
use Rattle.std.proofs.lemmas.Fn.{fold_over, slice_gives, fronts}
use Rattle.bits.proofs.Numbers.{Folded, folded}
use Rattle.bits.proofs.number_big.Goals as goal

pub returns : goal.returns
returns c =
    let v = fold_over fronts (λ y. y.now) _ Folded _ (λ ys a x b f' j k. (folded ys a x.now b (search rules) (search rules) j, search rules))
    _ _ _ _ (slice_gives c.iter.result) (search rules) c.fold.ensures.ran in
    (rw c.iter.ensures.rest at v c.requires).0
