-- The headline at a history that some commands led to.
use Rattle.std.proofs.Common.{◌≡◌, subst, Some}
use Rattle.std.specs.Prelude.{ℕ, Option, map}
use Rattle.om_code.specs.declared.frame.Fault.{Fault}
use Rattle.om_code.specs.declared.raw.Raw.{Raw}
use Rattle.om_state.specs.declared.step.Label.{Label}
use Rattle.om_state.specs.Rules.{Rules, replay}
use Rattle.om_task.specs.Rules.{rules_of}
use Rattle.om_undo_history.specs.declared.reply.StepReply.TheVariants.{Done}
use Rattle.om_undo_history.specs.Commands.{IsRun}
use Rattle.om_undo_history.specs.Runs.{History, label_of, state_of_entries, reply_to_step, Undoes}
use Rattle.om_undo_history.specs.Undos.{UndoReplies}
use Rattle.om_undo_history.specs.Leaves.{Leaves}
use Rattle.om_undo.specs.Headline.{Headline}
use Rattle.om_undo.specs.Machines.{MachineView}
use Rattle.om_undo.specs.Exactness.{IsExact}

abbrev RestoresAt : Rules → History → Label → ℕ → ℕ → Option Fault → Type 0
RestoresAt r h label serial line fault = reply_to_step r h label ≡ Done serial line fault → Undoes r h label serial line

-- of a machine with this program, these workers and this history
pub exact_at : (program : Raw) (workers : ℕ) (h : History) → Headline program workers → IsRun (rules_of program workers) h
    → IsExact (record { program = program; workers = workers; history = h })
exact_at program workers h headline reached = let r : Rules = rules_of program workers in record {
  replayed = subst (λ (x : History). replay r (map label_of x.entries) ≡ Some (state_of_entries r x.entries)) reached.is
      (headline.remaining_steps_can_be_made reached.commands);
  restored = λ label serial line fault done. subst (λ (x : History). RestoresAt r x label serial line fault) reached.is
      (headline.undo_takes_the_step_back reached.commands label serial line fault) done;
  undone = λ worker. subst (λ (x : History). UndoReplies r x worker) reached.is
      (headline.undo_is_refused_exactly_at_conflicts reached.commands worker);
  left = subst (λ (x : History). Leaves r x) reached.is (headline.commands_leave_the_other_steps reached.commands);
}
