-- Teams: their size, their members, and what these begin with (OpenMP 5.2, 10.1).
use Rattle.std.specs.Prelude.{ℕ, zero, suc, ◌+◌, ℤ, nat_lt, if◌then◌else◌, min, Option, None, Some, List, [], ◌∷◌, ◌++◌}
use Rattle.om_foot.specs.declared.object.Obj.TheVariants as obj
use Rattle.om_foot.specs.declared.footprint.Access.{Access}
use Rattle.om_state.specs.declared.control.Frame.{Frame}
use Rattle.om_state.specs.declared.control.Team.{Team}
use Rattle.om_state.specs.declared.control.Context.{Context}
use Rattle.om_state.specs.declared.control.Kind.TheVariants as kind
use Rattle.om_state.specs.declared.control.Control.TheVariants as control
use Rattle.om_state.specs.declared.step.Update.{Update}
use Rattle.om_state.specs.declared.step.Update.TheVariants.{Put}
use Rattle.om_state.specs.declared.value.Val.{Val}
use Rattle.om_state.specs.declared.value.Val.TheVariants as value
use Rattle.om_state.specs.State.{State}
use Rattle.om_state.specs.Values.{control_in, is_idle}
use Rattle.om_team_serial.specs.Objects.{write, given_cells, puts}
use Rattle.om_team_serial.specs.Begins.{new_context}

-- a member of a team, at the start of its region's body
abbrev pub member : Team → Frame → Context
member team frame = new_context kind.Implicit 0 (team.name ++ team.number ∷ []) team None frame

-- the controls of workers, from this one on
abbrev pub workers_from : ℕ → ℕ → List Access
workers_from worker zero = []
workers_from worker (suc count) = write (obj.Control worker) ∷ workers_from (worker + 1) count

-- the first of these workers that isn't idle
abbrev pub first_busy : ℕ → ℕ → List Val → Option ℕ
first_busy worker zero values = None
first_busy worker (suc count) [] = None
first_busy worker (suc count) (v ∷ rest) = if is_idle (control_in v) then first_busy (worker + 1) count rest else
    Some worker

-- the same by a state
abbrev pub busy_in : State → ℕ → ℕ → Option ℕ
busy_in s worker zero = None
busy_in s worker (suc count) = if is_idle (control_in (s (obj.Control worker))) then busy_in s (worker + 1) count
    else Some worker

-- the controls that the members from this thread number on become: member i of the team is worker i
abbrev pub member_controls : Team → Frame → ℕ → ℕ → List Update
member_controls team frame number zero = []
member_controls team frame number (suc count) =
    Put (value.Control (control.Running (record {
      top = member (record team { number = number }) frame;
      below = [];
    }))) ∷ member_controls team frame (number + 1) count

-- the cells of the members' firstprivate copies, and the values put there
abbrev pub member_cells : List ℕ → List ℕ → ℕ → ℕ → List Access
member_cells team given number zero = []
member_cells team given number (suc count) = given_cells (team ++ number ∷ []) 0 given ++ member_cells team given
    (number + 1) count

abbrev pub member_puts : List ℤ → ℕ → List Update
member_puts ns zero = []
member_puts ns (suc count) = puts ns ++ member_puts ns count

-- OpenMP 5.2, 10.1.1: the size of a team. A region within an active one has a team of one
abbrev pub size_of : ℕ → ℕ → Option ℕ → ℕ
size_of workers zero None = workers
size_of workers zero (Some asked) = min asked workers
size_of workers (suc level) asked = 1

abbrev pub level_of : ℕ → ℕ → ℕ
level_of size level = if nat_lt 1 size then 1 else level
