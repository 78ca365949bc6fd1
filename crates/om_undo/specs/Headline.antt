-- What is promised of the runs of every program.
use Rattle.std.specs.Prelude.{◌≡◌, ℕ, Some, Option, List, map}
use Rattle.om_code.specs.declared.raw.Raw.{Raw}
use Rattle.om_code.specs.declared.frame.Fault.{Fault}
use Rattle.om_state.specs.declared.step.Label.{Label}
use Rattle.om_state.specs.Rules.{replay}
use Rattle.om_task.specs.Rules.{rules_of}
use Rattle.om_undo_history.specs.declared.reply.StepReply.TheVariants.{Done}
use Rattle.om_undo_history.specs.Runs.{History, no_history, label_of, state_of_entries, reply_to_step, Undoes}
use Rattle.om_undo_history.specs.Commands.{Command, run}
use Rattle.om_undo_history.specs.Undos.{UndoReplies}
use Rattle.om_undo_history.specs.Leaves.{Leaves}

-- the history of a program with so many workers after steps, undos and rolls, by any workers in any interleaving
abbrev pub history_after : Raw → ℕ → List Command → History
history_after program workers commands = run (rules_of program workers) no_history commands

-- of a program with so many workers: the three sentences of README, and what each step and each undo leaves
pub record Headline (program : Raw) (workers : ℕ) : Type 0 where
  -- after any commands the entries that remain can be made, in order, from the start; the state that they give is
  -- `state_of_entries`. That a machine's store holds that state is promised by `Machine::look` and `Machine::control`
  pub remaining_steps_can_be_made : (commands : List Command)
      → let r = rules_of program workers in let entries = (history_after program workers commands).entries in
      replay r (map label_of entries) ≡ Some (state_of_entries r entries)
  -- a step that is done and then an undo of its worker change nothing but the number of steps ever made
  pub undo_takes_the_step_back : (commands : List Command) (label : Label) (serial line : ℕ) (fault : Option Fault)
      → let r = rules_of program workers in let before = history_after program workers commands in
      reply_to_step r before label ≡ Done serial line fault → Undoes r before label serial line
  -- an undo is refused exactly where a later entry conflicts with the worker's last one, and the refusal
  -- names the first
  pub undo_is_refused_exactly_at_conflicts : (commands : List Command) (worker : ℕ)
      → UndoReplies (rules_of program workers) (history_after program workers commands) worker
  -- a step that is made adds its entry behind the others. An undo that is done takes out its worker's last entry
  -- and no other. A step or an undo that is not done changes nothing. Of rolls nothing is said here: each is a list
  -- of such undos (`RollIsUndos` of om_undo_history)
  pub commands_leave_the_other_steps : (commands : List Command)
      → Leaves (rules_of program workers) (history_after program workers commands)

abbrev pub EveryHeadline : Type 0
EveryHeadline = (program : Raw) (workers : ℕ) → Headline program workers
