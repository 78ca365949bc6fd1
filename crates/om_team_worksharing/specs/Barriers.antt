-- Barriers: how far each member came, and the tasks of the phase (OpenMP 5.2, 15.3).
use Rattle.std.specs.Prelude.{ℕ, zero, suc, ◌+◌, Bool, false, nat_lt, if◌then◌else◌, List, []}
use Rattle.std.specs.Prelude.{◌∷◌, ◌++◌}
use Rattle.om_foot.specs.declared.object.Obj.TheVariants as obj
use Rattle.om_foot.specs.declared.footprint.Access.{Access}
use Rattle.om_state.specs.declared.control.Team.{Team}
use Rattle.om_state.specs.declared.value.Val.{Val}
use Rattle.om_state.specs.State.{State}
use Rattle.om_state.specs.Values.{number_in, count_in}
use Rattle.om_team_serial.specs.Objects.{read}
use Rattle.om_team_serial.specs.Rows.{is_zero}

-- how many barriers the members reached, from this thread number on
abbrev pub arrivals : List ℕ → ℕ → ℕ → List Access
arrivals team number zero = []
arrivals team number (suc count) = read (obj.Arrived team number) ∷ arrivals team (number + 1) count

-- what a member that goes on from the barrier of a phase reads
abbrev pub barrier : Team → ℕ → List Access
barrier team phase = arrivals team.name 0 team.size ++ read (obj.Pending team.name phase) ∷ []

-- whether all members have reached the barrier of this phase, and no task of it is unfinished
abbrev pub is_open : ℕ → ℕ → List Val → Bool
is_open phase size [] = false
is_open phase zero (v ∷ rest) = is_zero (count_in v)
is_open phase (suc size) (v ∷ rest) = if nat_lt phase (number_in v) then is_open phase size rest else false

-- the same by a state, for the members from this thread number on
abbrev pub open_in : State → List ℕ → ℕ → ℕ → ℕ → Bool
open_in s team phase number zero = is_zero (count_in (s (obj.Pending team phase)))
open_in s team phase number (suc count) = if nat_lt phase (number_in (s (obj.Arrived team number))) then open_in s
    team phase (number + 1) count else false
