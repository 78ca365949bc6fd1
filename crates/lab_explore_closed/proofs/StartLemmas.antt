-- A task that can be begun is ready.
use Rattle.std.proofs.Common.{◌≡◌, refl, ℕ, Bool, true, false, Option, None, Some, List}
use Rattle.om_foot.specs.declared.footprint.Access.{Access}
use Rattle.om_foot.specs.declared.object.Obj.TheVariants as obj
use Rattle.om_code.specs.declared.raw.Raw.{Raw}
use Rattle.om_code.specs.Places.{instruction_at}
use Rattle.om_events.specs.declared.kind.TaskStatus.{TaskStatus}
use Rattle.om_state.specs.declared.control.Context.{Context}
use Rattle.om_state.specs.declared.control.Control as controls
use Rattle.om_state.specs.declared.control.Control.TheVariants as control
use Rattle.om_state.specs.declared.value.Task as tasks
use Rattle.om_state.specs.declared.value.Task.TheVariants as task
use Rattle.om_state.specs.Ready.{is_ready, is_ready_at}
use Rattle.om_state.specs.Rules.{next_state, state_after_outcome, step_at, footprint_at}
use Rattle.om_state.specs.State.{State, values_read}
use Rattle.om_state.specs.Values.{control_in, task_in}
use Rattle.om_task.specs.Rows.{started, started_row, ready_for}
use Rattle.om_task.specs.Rules.{rules_of, further_in, leaving, outcome_after, row_in}
use Rattle.lab_explore_closed.specs.Starts.{PossibleStartsAreReady, start_by}

-- by how far the task is

at_task : (footprint : List Access) (s t : State) (was : controls.Control) (worker : ℕ) (name team : List ℕ)
    (c : Context) (status : TaskStatus) (k : tasks.Task)
    → state_after_outcome footprint (outcome_after was (started worker name c status (ready_for team k))) s ≡ Some t
    → is_ready k ≡ true
at_task footprint s t was worker name team c status (task.Ready ready) h = refl
at_task footprint s t was worker name team c status task.Absent h = cc
at_task footprint s t was worker name team c status (task.Running other) h = cc
at_task footprint s t was worker name team c status task.Done h = cc

-- by the status of the task that would be left

at_status : (footprint : List Access) (s t : State) (was : controls.Control) (worker : ℕ) (name : List ℕ) (c : Context)
    (admits : Bool) (status : Option TaskStatus)
    → state_after_outcome footprint (outcome_after was ((started_row worker name c admits status).row
    (values_read (started_row worker name c admits status).names s))) s ≡ Some t
    → is_ready (task_in (s (obj.Task name))) ≡ true
at_status footprint s t was worker name c admits None h = cc
at_status footprint s t was worker name c false (Some status) h = cc
at_status footprint s t was worker name c true (Some status) h =
    at_task footprint s t was worker name c.team.name c status (task_in (s (obj.Task name))) h

-- by the control of the worker

at_control : (program : Raw) (workers worker : ℕ) (name : List ℕ) (footprint : List Access) (s t : State)
    (was : controls.Control)
    → state_after_outcome footprint (outcome_after was (row_in program workers (start_by worker name) was
    (values_read (further_in program workers (start_by worker name) was) s))) s ≡ Some t
    → is_ready (task_in (s (obj.Task name))) ≡ true
at_control program workers worker name footprint s t (control.Running stack) h =
    at_status footprint s t (control.Running stack) worker name stack.top _
    (leaving (instruction_at program stack.top.frame.body stack.top.frame.next)) h
at_control program workers worker name footprint s t control.Idle h = cc
at_control program workers worker name footprint s t (control.Faulted fault stack) h = cc
at_control program workers worker name footprint s t (control.Ended value) h = cc

pub possible_starts_are_ready : PossibleStartsAreReady
unfolding step_at
possible_starts_are_ready program workers worker name s t h =
    at_control program workers worker name (footprint_at (rules_of program workers) s (start_by worker name)) s t
    (control_in (s (obj.Control worker))) h
