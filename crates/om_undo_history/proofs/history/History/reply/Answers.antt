-- What edits come to is what the step puts first.
use Rattle.std.proofs.Common.{◌∙◌, ap, sym, ◌+◌, ℕ}
use Rattle.om_foot.specs.declared.object.Obj.TheVariants as obj
use Rattle.om_state.specs.declared.control.Control as controls
use Rattle.om_state.specs.declared.step.Label.{Label}
use Rattle.om_state.specs.Edits.{changed}
use Rattle.om_state.specs.Values.{control_in}
use Rattle.om_memory.specs.Faults.{fault_in}
use Rattle.om_memory.specs.Memories.{state_of}
use Rattle.om_undo_history.specs.declared.reply.StepReply.TheVariants.{Done}
use Rattle.om_undo_history.specs.Pasts.{past_in, step_for}
use Rattle.om_undo_history.proofs.Soundness.{reply_to_step-is}
use Rattle.om_undo_history.proofs.Holding.{fault-is}
use Rattle.om_undo_history.proofs.history.History.reply.Goals as goal

pub returns : goal.returns
returns c = λ (label : Label) is r planned.
    let control : ℕ → controls.Control = λ w. changed c.args.change.now.edits
    (control_in (state_of c.args.self.now.store (obj.Control w))) in
    let fault = c.fault_by.ensures
    ∙ (λ j. fault_in (changed (c.as_slice.ensures j)
    (control_in (state_of c.args.self.now.store (obj.Control (sym is j))))))
    ∙ fault-is (control label.worker) c.args.change.now.updates in
    ap (Done (c.args.self.now.made + 1) c.args.change.now.line) fault
    ∙ reply_to_step-is r (past_in c.args.self.now) label (step_for label c.args.change.now c.args.self.now)
    planned.0.past planned.1
