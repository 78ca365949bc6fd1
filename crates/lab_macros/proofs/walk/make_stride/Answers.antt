use Rattle.std.proofs.Common.{refl, sym, ap, ◌∙◌}
use Rattle.om_shell_debugger.specs.Calls.{with_step}
use Rattle.om_shell_debugger.specs.Stops.{stop_after}
use Rattle.om_undo.specs.PlannedSteps.{PlannedView}
use Rattle.lab_macros.specs.Walks.{stride_by}
use Rattle.lab_macros.proofs.WalkLaws.{can_be_made}
use Rattle.lab_macros.proofs.walk.make_stride.Goals as goal

pub returns-then-not-is_possible-clause-stride : goal.returns-then-not-is_possible-clause-stride
returns-then-not-is_possible-clause-stride c =
    let planned = rw c.machine.ensures.left at c.in_ok-step.ensures in
    rw (sym (can_be_made _ _ _ _ planned c.is_possible.ensures) ∙ c.if-not-is_possible.true) refl

pub returns-then-not-is_possible-clause-after : goal.returns-then-not-is_possible-clause-after
returns-then-not-is_possible-clause-after c =
    let planned = rw c.machine.ensures.left at c.in_ok-step.ensures in
    rw (sym (can_be_made _ _ _ _ planned c.is_possible.ensures) ∙ c.if-not-is_possible.true) refl

pub returns-then-is_full-clause-stride : goal.returns-then-is_full-clause-stride
returns-then-is_full-clause-stride c =
    let planned = rw c.machine.ensures.left at c.in_ok-step.ensures in
    rw (
      sym (can_be_made _ _ _ _ planned c.is_possible.ensures) ∙ c.if-not-is_possible.false,
      sym c.is_full.ensures ∙ c.if-is_full.true,
    ) refl

pub returns-then-is_full-clause-after : goal.returns-then-is_full-clause-after
returns-then-is_full-clause-after c =
    let planned = rw c.machine.ensures.left at c.in_ok-step.ensures in
    rw (
      sym (can_be_made _ _ _ _ planned c.is_possible.ensures) ∙ c.if-not-is_possible.false,
      sym c.is_full.ensures ∙ c.if-is_full.true,
    ) refl

pub returns-clause-stride : goal.returns-clause-stride
returns-clause-stride c =
    let planned = rw c.machine.ensures.left at c.in_ok-step.ensures in
    let label = ap (λ (v : PlannedView). v.label) planned in
    rw (
      sym (can_be_made _ _ _ _ planned c.is_possible.ensures) ∙ c.if-not-is_possible.false,
      sym c.is_full.ensures ∙ c.if-is_full.false,
    ) (c.stride_by.ensures ∙ ap stride_by (c.in_ok-stop.ensures.stop
    ∙ ap (λ l. stop_after c.args.marks.now c.args.book.now l) label))

pub returns-clause-after : goal.returns-clause-after
returns-clause-after c =
    let planned = rw c.machine.ensures.left at c.in_ok-step.ensures in
    let label = ap (λ (v : PlannedView). v.label) planned in
    rw (
      sym (can_be_made _ _ _ _ planned c.is_possible.ensures) ∙ c.if-not-is_possible.false,
      sym c.is_full.ensures ∙ c.if-is_full.false,
    ) (c.in_ok-stop.ensures.after ∙ ap (λ l. with_step c.args.book.now l) label)
