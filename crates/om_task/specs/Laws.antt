-- What is true of the runs of every program.
use Rattle.std.specs.Prelude.{◌≡◌, ℕ, ◌≤◌, ℤ, pos, true, Some, List, ◌∷◌, length}
use Rattle.om_code.specs.declared.raw.Raw.{Raw}
use Rattle.om_state.specs.declared.control.Context.{Context}
use Rattle.om_state.specs.declared.step.Choice.TheVariants.{Start}
use Rattle.om_state.specs.declared.step.Label.{Label}
use Rattle.om_state.specs.declared.step.Outcome.TheVariants.{Updates}
use Rattle.om_state.specs.declared.step.Update.{Update}
use Rattle.om_state.specs.declared.value.Val.{Val}
use Rattle.om_state.specs.declared.value.Val.TheVariants.{Count}
use Rattle.om_state.specs.Rules.{Rules, replay, step_at, control_access}
use Rattle.om_state.specs.State.{State}
use Rattle.om_state.specs.Values.{control_in}
use Rattle.om_foot.specs.Names.{above}
use Rattle.om_foot.specs.declared.object.Obj.{Obj}
use Rattle.om_foot.specs.declared.object.Obj.TheVariants as obj
use Rattle.om_team.specs.Counters.{StateWithin}
use Rattle.om_task.specs.Rules.{rules_of, is_at_scheduling_point}
use Rattle.om_task.specs.Steps.{AddOnce, AreModest}
use Rattle.om_task.specs.Tasks.{born}

-- after n steps from the start no counter is above n
abbrev pub LowCounters : Type 0
LowCounters = (program : Raw) (workers n : ℕ) (ls : List Label) (s : State) → replay (rules_of program workers) ls
    ≡ Some s → length ls ≤ n → StateWithin n s

-- rules whose start has no count but 0, and whose steps put no count and add at most one, once to each object
pub record IsCalm (r : Rules) : Type 0 where
  pub start : (q : Obj) (n : ℤ) → r.start q ≡ Count n → n ≡ pos 0
  pub once : (l : Label) (control : Val) → AddOnce (control_access l ∷ r.further l control)
  pub modest : (l : Label) (values : List Val) (us : List Update) → r.outcome l values ≡ Updates us → AreModest us

abbrev pub CalmRules : Type 0
CalmRules = (program : Raw) (workers : ℕ) → IsCalm (rules_of program workers)

-- a start that is a step is made at a scheduling point
abbrev pub StartsAtSchedulingPoints : Type 0
StartsAtSchedulingPoints = (program : Raw) (workers worker : ℕ) (task : List ℕ) (s : State) (us : List Update)
    → (step_at (rules_of program workers) s (record { worker = worker; choice = Start task })).outcome ≡ Updates us
    → is_at_scheduling_point program (control_in (s (obj.Control worker))) ≡ true

-- the name of what is born of a task, a task or a team or a group, is that of the task with one number more
abbrev pub BornBelow : Type 0
BornBelow = (context : Context) (new : List ℕ) → born context ≡ Some new → above new ≡ context.task
