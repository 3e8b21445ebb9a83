use Rattle.spec.proofs.Since330.{nil_below_330, counts_from_330}
use native.Mathlib.Omega.{arith}
use mathlib.Core.Path.{refl, sym}
use Rattle.walk.proofs.reduction.Goals as goal

pub returns-then-version-lt330 : goal.returns-then-version-lt330
returns-then-version-lt330 c = (rw c.link-link.ensures, sym (nil_below_330 _ _ (omega (arith, c.version.ensures))))

pub returns : goal.returns
returns c = rw c.link-link.ensures (refl, sym (counts_from_330 _ _ (omega (arith, c.version.ensures))))
