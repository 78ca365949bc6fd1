-- What contracts see of a machine, and what is true of its fields.
use Rattle.std.specs.Prelude.{◌≡◌, ℕ, ◌≤◌, Option, Some, List, map}
use Rattle.om_code.specs.declared.raw.Raw.{Raw}
use Rattle.om_foot.specs.declared.footprint.Access.{Access}
use Rattle.om_foot.specs.declared.object.Obj.TheVariants as obj
use Rattle.om_state.specs.State.{State}
use Rattle.om_state.specs.Values.{control_in}
use Rattle.om_state.specs.declared.control.Control.{Control}
use Rattle.om_state.specs.declared.step.Label.{Label}
use Rattle.om_state.specs.Rules.{Rules, step_at, replay}
use Rattle.om_task.specs.declared.planned.Plan.{Plan}
use Rattle.om_task.specs.Plans.{StandsFor, PlanHasRoom}
use Rattle.om_task.specs.Rules.{rules_of}
use Rattle.om_undo_history.specs.declared.history.History as kept
use Rattle.om_undo_history.specs.declared.reply.StepReply.{StepReply}
use Rattle.om_undo_history.specs.declared.reply.RollReply.{RollReply}
use Rattle.om_undo_history.specs.declared.reply.Taken.{Taken}
use Rattle.om_undo_history.specs.Runs.{History, no_history, label_of, state_of_entries}
use Rattle.om_undo_history.specs.Runs.{reply_to_step, after_step, after_undo}
use Rattle.om_undo_history.specs.Cones.{taken_by_roll, reply_to_roll, after_roll}
use Rattle.om_undo_history.specs.Commands.{TakesCone}
use Rattle.om_undo_history.specs.Standing.{footprint_with}
use Rattle.om_undo_history.specs.Pasts.{past_in, history_in, IsHeld}

-- a machine's program, its number of workers, and its history
pub record MachineView : Type 0 where
  pub program : Raw
  pub workers : ℕ
  pub history : History

-- the rules of its program
abbrev pub rules_for : MachineView → Rules
rules_for m = rules_of m.program m.workers

-- its state: the replay of its entries from the start
abbrev pub state_in : MachineView → State
state_in m = state_of_entries (rules_for m) m.history.entries

-- its state is the replay of its entries, which can all be made
abbrev pub StateIsReplay : MachineView → Type 0
StateIsReplay m = replay (rules_for m) (map label_of m.history.entries) ≡ Some (state_in m)

-- a worker's control at a machine
abbrev pub control_at : MachineView → ℕ → Control
control_at m w = control_in (state_in m (obj.Control w))

-- a machine at the start of a program
abbrev pub at_start : Raw → ℕ → MachineView
at_start program workers = record { program = program; workers = workers; history = no_history }

-- what a step replies at a machine
abbrev pub step_reply : MachineView → Label → StepReply
step_reply m l = reply_to_step (rules_for m) m.history l

-- the machine after a step
abbrev pub with_step : MachineView → Label → MachineView
with_step m l = record m { history = after_step (rules_for m) m.history l }

-- the machine after a worker's undo
abbrev pub with_undo : MachineView → ℕ → MachineView
with_undo m w = record m { history = after_undo (rules_for m) m.history w }

-- what a roll of the entry with a serial takes out
abbrev pub rolled_from : MachineView → ℕ → List Taken
rolled_from m serial = taken_by_roll (rules_for m) m.history serial

-- what it replies
abbrev pub roll_reply : MachineView → ℕ → RollReply
roll_reply m serial = reply_to_roll (rules_for m) m.history serial

-- the machine after it
abbrev pub with_roll : MachineView → ℕ → MachineView
with_roll m serial = record m { history = after_roll (rules_for m) m.history serial }

-- where these are what a roll takes out, they are taken out
abbrev pub TakesOut : List Taken → MachineView → MachineView → Type 0
TakesOut taken old new = (serial : ℕ) → taken ≡ rolled_from old serial → new ≡ with_roll old serial

-- the cone of the entry with a serial is taken out, and nothing else
abbrev pub TakesItsCone : ℕ → MachineView → MachineView → Type 0
TakesItsCone serial old new = TakesCone (rules_for old) old.history serial new.history

-- the footprint of the step whose entry has a serial
abbrev pub footprint_in : MachineView → ℕ → Option (List Access)
footprint_in m serial = footprint_with (rules_for m) m.history serial

-- there are 1 to 32 workers, and the history is held under the rules of the program
pub record IsSound (program : Raw) (workers : ℕ) (history : kept.History) : Type 0 where
  pub at_least_one : 1 ≤ workers
  pub at_most_32 : workers ≤ 32
  pub held : IsHeld (rules_of program workers) history

-- a plan of a label's step at a state
abbrev pub PlansAt : Rules → Label → State → Plan → Type 0
PlansAt r l s p = StandsFor p (control_in (s (obj.Control l.worker))) (step_at r s l)

-- rules under which a history is held, and the plan of a label's step by them: at its state, which is the replay of
-- its entries
pub record IsPlan (r : Rules) (h : kept.History) (l : Label) (p : Plan) : Type 0 where
  pub held : IsHeld r h
  pub planned : PlansAt r l (past_in h).state p
  pub replayed : PlansAt r l (state_of_entries r (history_in h).entries) p
  pub room : PlanHasRoom (control_in ((past_in h).state (obj.Control l.worker))) p

-- what such a plan replies
abbrev pub RepliesToPlan : Label → Plan → kept.History → StepReply → Type 0
RepliesToPlan l p h reply = (r : Rules) → IsPlan r h l p → reply ≡ reply_to_step r (history_in h) l

-- what it replies, whatever the choice of its worker's step is
abbrev pub RepliesToWorker : ℕ → Plan → kept.History → StepReply → Type 0
RepliesToWorker worker p h reply = (label : Label) → label.worker ≡ worker → RepliesToPlan label p h reply

-- what it leaves
abbrev pub TakesPlan : Label → Plan → kept.History → kept.History → Type 0
TakesPlan l p old new = (r : Rules) → IsPlan r old l p → (history_in new ≡ after_step r (history_in old) l)
    × IsHeld r new
