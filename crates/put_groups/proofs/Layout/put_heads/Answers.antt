use Rattle.write.specs.Write.{then, wrote_as}
use Rattle.reading.specs.Steps.{the_group}
use Rattle.answers.specs.Readings.{target}
use Rattle.answers.specs.Copies.{link_to}
use Rattle.put_channels.proofs.Written.{written_link_lem, link_by}
use Rattle.put_groups.proofs.Groups.{channels_long, channels_many, heads_as_lem, dg_length}
use Rattle.std.proofs.Math.Logic.{∥∥₁_elim}
use Rattle.std.specs.Coded.{codes}
use Rattle.put_channels.specs.Written.{link_if}
use Rattle.std.specs.Prelude.{not, nat_eq}
use Prim.Native.Nat.{◌+◌}
use mathlib.Core.Path.{refl, sym, ◌∙◌, ap}
use Rattle.put_groups.proofs.Layout.put_heads.Goals as goal

pub returns : goal.returns
returns c =
    let l = c.args.self in
    let few = c.requires.0 in
    let records = c.link_if-records.ensures ∙ ap (link_if (not (nat_eq c.count-count.result 0))) c.records.ensures.0 in
    ∥∥₁_elim l.commented (hlevel codes) λ b.
    let text = link_by _ c.link_if-text.ensures c.is_some.ensures ∙ written_link_lem _ _ b ∙ ap (λ p. target (link_to p (the_group l.group).comment)) c.text.ensures in
    wrote_as (then c.put_dg.ensures c.put_cg.ensures (ap (λ n. l.at + n) (sym (dg_length _ _ _)))) refl
    (heads_as_lem _ _ _ _ _ _ _ _ _ _ (the_group l.group) c.first_channel.ensures.0 (channels_long l few) records c.link_if-first.ensures text (channels_many l few) c.size.ensures.0 c.count-count.ensures.0)
