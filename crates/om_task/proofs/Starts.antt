-- A start that is a step is made at a scheduling point.
use Rattle.std.proofs.Common.{◌≡◌, refl, ℕ, Bool, true, Option, None, Some, List}
use Rattle.std.specs.Prelude.{is_some}
use Rattle.om_foot.specs.declared.object.Obj.TheVariants as obj
use Rattle.om_code.specs.declared.raw.Raw.{Raw}
use Rattle.om_code.specs.Places.{instruction_at}
use Rattle.om_events.specs.declared.kind.TaskStatus.{TaskStatus}
use Rattle.om_state.specs.declared.control.Context.{Context}
use Rattle.om_state.specs.declared.control.Control as controls
use Rattle.om_state.specs.declared.control.Control.TheVariants.{Idle, Running, Faulted}
use Rattle.om_state.specs.declared.control.Control.TheVariants as control
use Rattle.om_state.specs.declared.step.Choice.TheVariants.{Start}
use Rattle.om_state.specs.declared.step.Label.{Label}
use Rattle.om_state.specs.declared.step.Outcome.TheVariants.{Updates}
use Rattle.om_state.specs.declared.step.Update.{Update}
use Rattle.om_state.specs.declared.value.Val.{Val}
use Rattle.om_state.specs.Rules.{step_at}
use Rattle.om_state.specs.State.{values_read}
use Rattle.om_state.specs.Values.{control_in}
use Rattle.om_task.specs.Rows.{started_row}
use Rattle.om_task.specs.Laws.{StartsAtSchedulingPoints}
use Rattle.om_task.specs.Rules.{further_in, is_at_scheduling_point, leaving, outcome_after, row_in}

abbrev start_of : ℕ → List ℕ → Label
start_of worker task = record { worker = worker; choice = Start task }

-- by the status of the task that would be left

at_status : (status : Option TaskStatus) (worker : ℕ) (task : List ℕ) (c : Context) (admits : Bool)
    (was : controls.Control) (values : List Val) (us : List Update)
    → outcome_after was ((started_row worker task c admits status).row values) ≡ Updates us → is_some status ≡ true
at_status None worker task c admits was values us h = cc
at_status (Some status) worker task c admits was values us h = refl

-- by the control of the worker

at_control : (program : Raw) (workers worker : ℕ) (task : List ℕ) (was : controls.Control) (values : List Val)
    (us : List Update) → outcome_after was (row_in program workers (start_of worker task) was values) ≡ Updates us
    → is_at_scheduling_point program was ≡ true
at_control program workers worker task (Running stack) values us h =
    at_status (leaving (instruction_at program stack.top.frame.body stack.top.frame.next)) worker task stack.top _
    (Running stack) values us h
at_control program workers worker task Idle values us h = cc
at_control program workers worker task (Faulted fault stack) values us h = cc
at_control program workers worker task (control.Ended value) values us h = cc

pub starts_at_points : StartsAtSchedulingPoints
unfolding step_at
starts_at_points program workers worker task s us h =
    let was = control_in (s (obj.Control worker)) in
    at_control program workers worker task was
    (values_read (further_in program workers (start_of worker task) was) s) us h
