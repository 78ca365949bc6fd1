-- The plan where the history stands is the plan at the machine.
use Rattle.std.proofs.Common.{◌≡◌, sym, subst}
use Rattle.om_state.specs.declared.step.Label.{Label}
use Rattle.om_task.specs.Plans.{label_at}
use Rattle.om_undo_history.specs.Choices.{label_by}
use Rattle.om_undo.specs.Machines.{MachineView}
use Rattle.om_undo.specs.PlannedSteps.{IsPlanAt}
use Rattle.om_undo.proofs.Planned.{label_is, plan_at}
use Rattle.om_undo.proofs.machine.Machine.plan.Goals as goal

pub invariant_of-result : goal.invariant_of-result
invariant_of-result c =
    let l : Label = label_at c.args.worker c.args.choice.now in
    let same : l ≡ label_by c.args.worker c.in_ok-start.start =
    sym (label_is c.args.worker c.in_ok-start.start c.args.choice.now c.in_ok-start.ensures) in
    subst (λ (m : MachineView). IsPlanAt m (label_by c.args.worker c.in_ok-start.start) c.in_ok-plan.plan)
    (sym c.of.ensures)
    (subst (λ (k : Label). IsPlanAt c.args.self.now k c.in_ok-plan.plan) same
    (plan_at c.self.inside.program c.self.inside.workers c.self.inside.history c.args.self.now l
    c.in_ok-plan.plan c.self.view_is c.in_ok-plan.ensures))
