-- What contracts see of a planned step, and what is true of its fields.
use Rattle.std.specs.Prelude.{Bool, true, false, Option, None, Some, List}
use Rattle.om_foot.specs.declared.footprint.Access.{Access}
use Rattle.om_foot.specs.declared.object.Obj.TheVariants as obj
use Rattle.om_state.specs.Values.{control_in}
use Rattle.om_state.specs.declared.step.Label.{Label}
use Rattle.om_state.specs.declared.step.Outcome.{Outcome}
use Rattle.om_state.specs.declared.step.Outcome.TheVariants as outcome
use Rattle.om_state.specs.declared.step.Step.{Step}
use Rattle.om_state.specs.Rules.{step_at}
use Rattle.om_task.specs.declared.planned.Plan.{Plan}
use Rattle.om_task.specs.Plans.{PlanHasRoom}
use Rattle.om_undo_history.specs.declared.reply.StepReply.{StepReply}
use Rattle.om_undo_history.specs.declared.reply.StepReply.TheVariants as step_reply
use Rattle.om_undo.specs.Machines.{MachineView, PlansAt, rules_for, state_in}

-- the machine at which a step was planned, and its label
pub record PlannedView : Type 0 where
  pub machine : MachineView
  pub label : Label

abbrev pub planned_at : MachineView → Label → PlannedView
planned_at m l = record { machine = m; label = l }

-- the plan of a label's step at a machine, whose edits have room
pub record IsPlanAt (m : MachineView) (l : Label) (p : Plan) : Type 0 where
  pub planned : PlansAt (rules_for m) l (state_in m) p
  pub room : PlanHasRoom (control_in (state_in m (obj.Control l.worker))) p

-- a step was made: it was neither blocked, nor had its worker ended
abbrev pub is_made : StepReply → Bool
is_made (step_reply.Done serial line fault) = true
is_made _ = false

-- a footprint, where what comes of its step is updates
abbrev pub if_updates : List Access → Outcome → Option (List Access)
if_updates footprint (outcome.Updates us) = Some footprint
if_updates footprint (outcome.Blocked b) = None
if_updates footprint outcome.Ended = None

abbrev pub footprint_if_made : Step → Option (List Access)
footprint_if_made d = if_updates d.footprint d.outcome

-- what a label's step touches at a machine, where it can be made
abbrev pub touched_if_made : MachineView → Label → Option (List Access)
touched_if_made m l = footprint_if_made (step_at (rules_for m) (state_in m) l)
