-- What is promised of a machine at hand: the headline, at its own history.
use Rattle.std.specs.Prelude.{◌≡◌, ℕ, Option}
use Rattle.om_code.specs.declared.frame.Fault.{Fault}
use Rattle.om_state.specs.declared.step.Label.{Label}
use Rattle.om_undo_history.specs.declared.reply.StepReply.TheVariants.{Done}
use Rattle.om_undo_history.specs.Runs.{Undoes}
use Rattle.om_undo_history.specs.Undos.{UndoReplies}
use Rattle.om_undo_history.specs.Leaves.{Leaves}
use Rattle.om_undo.specs.Machines.{MachineView, rules_for, StateIsReplay, step_reply}

-- an undo of a worker is refused exactly where a later entry of this machine conflicts with the worker's last one, and
-- names the first; it is done exactly where none does
abbrev pub UndoesExactly : MachineView → ℕ → Type 0
UndoesExactly m worker = UndoReplies (rules_for m) m.history worker

pub record IsExact (m : MachineView) : Type 0 where
  -- its entries can be made, in order, from the start, and the state that they give is its state
  pub replayed : StateIsReplay m
  -- a step that is done and then an undo of its worker change nothing but the number of steps ever made
  pub restored : (label : Label) (serial line : ℕ) (fault : Option Fault)
      → step_reply m label ≡ Done serial line fault → Undoes (rules_for m) m.history label serial line
  pub undone : (worker : ℕ) → UndoesExactly m worker
  -- a step that is made adds its entry after the others; an undo that is done takes out its worker's last entry and no
  -- other; a step or an undo that is not done changes nothing
  pub left : Leaves (rules_for m) m.history
