use Rattle.answers.specs.Samples.{stored_as}
use Rattle.answers.proofs.Laws.{refuses, admits}
use Rattle.stored.proofs.Storing.{runs_is}
use mathlib.Core.Path.{sym, ◌∙◌}
use native.Mathlib.Omega.{arith}
use Rattle.stored.proofs.Bits.part.Goals as goal

pub returns-then-not-fills : goal.returns-then-not-fills
unfolding stored_as
returns-then-not-fills c =
    let e = sym c.fills.ensures ∙ c.if-not-fills.true in
    λ field. record { is = λ f x h. refuses _ _ _ _ (sym (runs_is _ _ _ f x h) ∙ e); fits = tt }

pub returns : goal.returns
unfolding stored_as
returns c =
    let e = sym c.fills.ensures ∙ c.if-not-fills.false in
    λ field. record {
      is = λ f x h. admits _ _ _ _ (sym (runs_is _ _ _ f x h) ∙ e) (rw (h.place, h.signal.bits));
      fits = omega (arith, c.args.self.inside.inside);
    }
