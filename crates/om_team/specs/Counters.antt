-- How high the numbers are that contexts count up.
use Rattle.std.specs.Prelude.{ℕ, ◌+◌, ◌≤◌, List, [], ◌∷◌}
use Rattle.om_foot.specs.declared.object.Obj.{Obj}
use Rattle.om_state.specs.declared.control.Context.{Context}
use Rattle.om_state.specs.declared.control.Control as controls
use Rattle.om_state.specs.declared.control.Control.TheVariants.{Idle, Running, Faulted, Ended}
use Rattle.om_state.specs.declared.value.Task as tasks
use Rattle.om_state.specs.declared.value.Task.TheVariants as task
use Rattle.om_state.specs.declared.value.Val.{Val}
use Rattle.om_state.specs.declared.value.Val.TheVariants as value
use Rattle.om_state.specs.State.{State}

-- a context has counted no more than n of each; it began with one frame
pub record IsWithin (n : ℕ) (c : Context) : Type 0 where
  pub births : c.births ≤ n
  pub regions : c.regions ≤ n
  pub phase : c.phase ≤ n
  pub frames : c.frames ≤ n + 1

abbrev pub AreWithin : ℕ → List Context → Type 0
AreWithin n [] = Unit {0}
AreWithin n (c ∷ below) = IsWithin n c × AreWithin n below

-- so has each context of a control that runs
abbrev pub ControlWithin : ℕ → controls.Control → Type 0
ControlWithin n (Running stack) = IsWithin n stack.top × AreWithin n stack.below
ControlWithin n (Faulted fault stack) = Unit {0}
ControlWithin n (Ended result) = Unit {0}
ControlWithin n Idle = Unit {0}

-- a task that waits was made in no later phase than the n-th
abbrev pub TaskWithin : ℕ → tasks.Task → Type 0
TaskWithin n (task.Ready ready) = ready.phase ≤ n
TaskWithin n task.Absent = Unit {0}
TaskWithin n (task.Running worker) = Unit {0}
TaskWithin n task.Done = Unit {0}

abbrev pub ValueWithin : ℕ → Val → Type 0
ValueWithin n (value.Control control) = ControlWithin n control
ValueWithin n (value.Task t) = TaskWithin n t
ValueWithin n _ = Unit {0}

-- so it is at each object of a state
abbrev pub StateWithin : ℕ → State → Type 0
StateWithin n s = (q : Obj) → ValueWithin n (s q)
