use Rattle.file.proofs.Files.{trigger_stop, mode_stop, mode_go}
use native.Mathlib.Omega.{arith}
use mathlib.Core.Path.{◌∙◌}
use Rattle.file.proofs.data_group.Goals as goal

pub returns-then-trigger-ne0 : goal.returns-then-trigger-ne0
returns-then-trigger-ne0 c = rw (c.at.ensures, c.link-trigger.ensures) (trigger_stop _ _ _ _ (rw c.link-trigger.ensures at c.if-trigger-ne0.true), tt)

pub returns-then-mode-gt2 : goal.returns-then-mode-gt2
returns-then-mode-gt2 c =
    let m = c.u16-mode.ensures.0 in
    rw c.at-then-mode-gt2.ensures (mode_stop _ _ _ _ (rw c.link-trigger.ensures at c.if-trigger-ne0.false) (omega (arith, m, c.if-mode-gt2.true)), tt)

pub returns : goal.returns
returns c =
    let m = c.u16-mode.ensures.0 in
    (rw m at c.groups_then_log.ensures.0 ∙ mode_go _ _ _ _ (rw c.link-trigger.ensures at c.if-trigger-ne0.false) (omega (arith, m, c.if-mode-gt2.false)), c.groups_then_log.ensures.1)
