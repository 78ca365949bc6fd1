-- What stands: each frame at a place of its body, with its operands, and with a home for each slot, and each thread in
-- its team.
use Rattle.std.specs.Prelude.{◌≡◌, ◌≢◌, ℕ, ◌+◌, ◌<◌, List, [], ◌∷◌, Some, slice_get, length}
use Rattle.om_foot.specs.declared.object.Obj.{Obj}
use Rattle.om_foot.specs.declared.object.Obj.TheVariants as obj
use Rattle.om_code.specs.declared.raw.Body.{Body}
use Rattle.om_code.specs.declared.raw.Raw.{Raw}
use Rattle.om_code.specs.declared.raw.Slot.{Slot}
use Rattle.om_code.specs.declared.raw.Source.{Source}
use Rattle.om_code.specs.declared.raw.Source.TheVariants as source
use Rattle.om_code.specs.Ways.{Way}
use Rattle.om_state.specs.declared.control.Home.{Home}
use Rattle.om_state.specs.declared.control.Home.TheVariants as home
use Rattle.om_state.specs.declared.control.Frame.{Frame}
use Rattle.om_state.specs.declared.control.Context.{Context}
use Rattle.om_state.specs.declared.control.Team.{Team}
use Rattle.om_state.specs.declared.control.Control as controls
use Rattle.om_state.specs.declared.control.Control.TheVariants.{Idle, Running, Faulted, Ended}
use Rattle.om_state.specs.declared.value.Task as tasks
use Rattle.om_state.specs.declared.value.Task.TheVariants as task
use Rattle.om_state.specs.declared.value.Val.{Val}
use Rattle.om_state.specs.declared.value.Val.TheVariants as value
use Rattle.om_state.specs.State.{State}
use Rattle.om_state.specs.Values.{task_in}
use Rattle.om_team_serial.specs.Begins.{first_frame}

-- which slots of which frames have how many cells: by the name of a task, the ordinal of a frame of it, the number of
-- a slot of that frame, and the number of cells
abbrev pub Owned : Type 1
Owned = List ℕ → ℕ → ℕ → ℕ → Type 0

-- an own slot has its cells in the frame itself; an outer one has those of a slot of another frame, which has as many
abbrev pub FitsHome : Owned → ℕ → Source → Home → Type 0
FitsHome owned cells source.Own home.Own = Unit {0}
FitsHome owned cells source.Own (home.Elsewhere name frame slot) = ⊥
FitsHome owned cells (source.Outer outer) home.Own = ⊥
FitsHome owned cells (source.Outer outer) (home.Elsewhere name frame slot) = owned name frame slot cells

-- one home for each slot
abbrev pub FitHomes : Owned → List Slot → List Home → Type 0
FitHomes owned [] [] = Unit {0}
FitHomes owned [] (h ∷ homes) = ⊥
FitHomes owned (slot ∷ slots) [] = ⊥
FitHomes owned (slot ∷ slots) (h ∷ homes) = FitsHome owned slot.cells slot.source h × FitHomes owned slots homes

-- a frame whose body exists, at a place that a way reaches with the frame's operands and so many more that are to come
pub record StandsWith (coming : ℕ) (program : Raw) (owned : Owned) (frame : Frame) : Type 0 where
  pub body : Body
  pub found : slice_get program.bodies frame.body ≡ Some body
  pub way : Way program.picks body.code frame.next (coming + length frame.operands)
  pub homes : FitHomes owned body.slots frame.homes

-- a frame that runs, or runs on as it is; and one that waits for the value of its call
abbrev pub IsStandingFrame : Raw → Owned → Frame → Type 0
IsStandingFrame program owned frame = StandsWith 0 program owned frame

abbrev pub IsWaitingFrame : Raw → Owned → Frame → Type 0
IsWaitingFrame program owned frame = StandsWith 1 program owned frame

abbrev pub AreWaiting : Raw → Owned → List Frame → Type 0
AreWaiting program owned [] = Unit {0}
AreWaiting program owned (frame ∷ frames) = IsWaitingFrame program owned frame × AreWaiting program owned frames

-- a thread that is one of as many as its team has
abbrev pub IsMember : Team → Type 0
IsMember team = team.number < team.size

-- a task whose name has a number, so that it is the child of another one
abbrev pub HasParent : List ℕ → Type 0
HasParent task = task ≢ []

pub record IsStandingContext (program : Raw) (owned : Owned) (context : Context) : Type 0 where
  pub frame : IsStandingFrame program owned context.frame
  pub callers : AreWaiting program owned context.callers
  pub member : IsMember context.team
  pub named : HasParent context.task

abbrev pub AreStanding : Raw → Owned → List Context → Type 0
AreStanding program owned [] = Unit {0}
AreStanding program owned (context ∷ below) = IsStandingContext program owned context × AreStanding program owned below

-- a worker stands in each of its contexts; so it does where it met a fault
abbrev pub IsStandingControl : Raw → Owned → controls.Control → Type 0
IsStandingControl program owned (Running stack) = AreStanding program owned (stack.top ∷ stack.below)
IsStandingControl program owned (Faulted fault stack) = AreStanding program owned (stack.top ∷ stack.below)
IsStandingControl program owned (Ended result) = Unit {0}
IsStandingControl program owned Idle = Unit {0}

-- a task that is ready stands in the frame with which it will begin
abbrev pub IsStandingTask : Raw → Owned → tasks.Task → Type 0
IsStandingTask program owned (task.Ready ready) = IsStandingFrame program owned (first_frame ready.body ready.homes)
IsStandingTask program owned task.Absent = Unit {0}
IsStandingTask program owned (task.Running worker) = Unit {0}
IsStandingTask program owned task.Done = Unit {0}

abbrev pub IsStandingValue : Raw → Owned → Val → Type 0
IsStandingValue program owned (value.Control control) = IsStandingControl program owned control
IsStandingValue program owned (value.Task t) = IsStandingTask program owned t
IsStandingValue program owned _ = Unit {0}

-- a task that isn't ready
abbrev pub IsNotReady : tasks.Task → Type 0
IsNotReady (task.Ready ready) = ⊥
IsNotReady _ = Unit {0}

-- a state in which each worker and each ready task stands, and no task is ready whose name has no number
pub record IsStanding (program : Raw) (owned : Owned) (s : State) : Type 0 where
  pub values : (q : Obj) → IsStandingValue program owned (s q)
  pub root : IsNotReady (task_in (s (obj.Task [])))
