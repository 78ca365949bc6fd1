use Rattle.std.proofs.Common.{◌≡◌, subst}
use Rattle.std.specs.Prelude.{Result, IfOk, OnOk}
use Rattle.om_state.specs.declared.step.Label.{Label}
use Rattle.om_undo_history.specs.declared.reply.StepReply.{StepReply}
use Rattle.om_book.specs.Books.{BookView, machine_of}
use Rattle.om_undo.specs.Machines.{MachineView, step_reply}
use Rattle.om_undo.specs.PlannedSteps.{PlannedView, planned_at}
use Rattle.om_task.specs.Plans.{label_at}
use Rattle.om_shell_debugger.specs.Calls.{with_step}
use Rattle.om_shell_debugger.proofs.calls.step.Goals as goal

-- what is taken is the step that was planned
step_taken : {T E : Type 0} (result : Result T E) (old new : BookView) (p : PlannedView) (m : MachineView) (l : Label)
    → p ≡ planned_at m l → OnOk result (new ≡ with_step old p.label) → OnOk result (new ≡ with_step old l)
step_taken result old new p m l is h = subst (λ (v : PlannedView). OnOk result (new ≡ with_step old v.label)) is h

pub returns-clause-after : goal.returns-clause-after
returns-clause-after c =
    step_taken c.take.result c.args.book.now c.take.new.book c.in_ok-planned.planned c.machine.result.now
    (label_at c.args.worker c.args.choice.now) c.in_ok-planned.ensures c.take.ensures.after

-- and so is what is replied
step_replied : {E : Type 0} (result : Result StepReply E) (old : BookView) (p : PlannedView) (m : MachineView) (l : Label)
    → p ≡ planned_at m l → IfOk result (λ r. r ≡ step_reply (machine_of old) p.label)
    → IfOk result (λ r. r ≡ step_reply (machine_of old) l)
step_replied result old p m l is h =
    subst (λ (v : PlannedView). IfOk result (λ r. r ≡ step_reply (machine_of old) v.label)) is h

pub returns-clause-reply : goal.returns-clause-reply
returns-clause-reply c =
    step_replied c.take.result c.args.book.now c.in_ok-planned.planned c.machine.result.now
    (label_at c.args.worker c.args.choice.now) c.in_ok-planned.ensures c.take.ensures.reply
