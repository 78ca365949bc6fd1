-- What an exploration of all schedules promises.
use Rattle.std.specs.Prelude.{◌≡◌, ℕ, ◌+◌, ◌<◌, ◌≤◌, true, false, Some, List, map, length, All, Contains}
use Rattle.om_code.specs.declared.raw.Raw.{Raw}
use Rattle.om_foot.specs.declared.footprint.Access.{Access}
use Rattle.om_state.specs.declared.step.Label.{Label}
use Rattle.om_state.specs.State.{State}
use Rattle.om_task.specs.Rules.{rules_of}
use Rattle.om_undo_history.specs.Runs.{label_of}
use Rattle.lab_explore_closed.specs.declared.found.Ending.{Ending}
use Rattle.lab_explore_closed.specs.declared.found.Explored as answers
use Rattle.lab_explore_closed.specs.declared.found.FoundEnd.{FoundEnd}
use Rattle.lab_explore_closed.specs.declared.found.FoundFault.{FoundFault}
use Rattle.lab_explore_closed.specs.declared.found.FoundRace.{FoundRace}
use Rattle.lab_explore_closed.specs.declared.found.Limits.{Limits}
use Rattle.lab_explore_closed.specs.declared.found.Met.{Met}
use Rattle.lab_explore_closed.specs.declared.found.Pair.{Pair}
use Rattle.lab_explore_closed.specs.declared.found.Verdict.TheVariants.{Complete, NotComplete, Stopped}
use Rattle.lab_explore_closed.specs.Endings.{IsMet, ending_at}
use Rattle.lab_explore_closed.specs.Lists.{AllDifferent}
use Rattle.lab_explore_closed.specs.Races.{IsRace, pair_at, place_at, is_behind, racer_at}
use Rattle.lab_explore_closed.specs.Runs.{Leads, IsReached, IsEnd, GoesRound}

-- ---- what is listed is there

-- the steps lead to a state with this ending, at which no step can be made
pub record IsPossibleEnd (program : Raw) (workers : ℕ) (f : FoundEnd) : Type 0 where
  pub state : State
  pub leads : Leads (rules_of program workers) workers (map label_of f.path) state
  pub end : IsEnd (rules_of program workers) workers state
  pub ending : f.ending ≡ ending_at program workers state

-- the steps lead to a state at which a worker has met this fault
pub record IsPossibleFault (program : Raw) (workers : ℕ) (f : FoundFault) : Type 0 where
  pub state : State
  pub leads : Leads (rules_of program workers) workers (map label_of f.path) state
  pub worker : f.met.worker < workers
  pub met : IsMet program state f.met

-- the steps lead to a state at which this race is
pub record IsPossibleRace (program : Raw) (workers : ℕ) (f : FoundRace) : Type 0 where
  pub state : State
  pub leads : Leads (rules_of program workers) workers (map label_of f.path) state
  pub a : Label
  pub b : Label
  pub x : Access
  pub y : Access
  pub first_is : a.worker < workers
  pub second_is : b.worker < workers
  pub race : IsRace program workers state a b x y
  -- a's access is the first of the pair
  pub in_order : is_behind (place_at program state a x) (place_at program state b y) ≡ false
  pub pair : f.pair ≡ pair_at program state a b x y
  pub first : f.first ≡ racer_at program state a
  pub second : f.second ≡ racer_at program state b

-- ---- what is there is listed

abbrev pub ending_of_found : FoundEnd → Ending
ending_of_found f = f.ending

abbrev pub met_of_found : FoundFault → Met
met_of_found f = f.met

abbrev pub pair_of_found : FoundRace → Pair
pair_of_found f = f.pair

-- each end that a run can lead to is among these
abbrev pub AreAllEnds : Raw → ℕ → List Ending → Type 0
AreAllEnds program workers endings = (ls : List Label) (s : State) → Leads (rules_of program workers) workers ls s
    → IsEnd (rules_of program workers) workers s → Contains endings (ending_at program workers s)

-- each fault that a run can meet is among these
abbrev pub AreAllFaults : Raw → ℕ → List Met → Type 0
AreAllFaults program workers ms = (ls : List Label) (s : State) (m : Met)
    → Leads (rules_of program workers) workers ls s → m.worker < workers → IsMet program s m → Contains ms m

-- each race that a run can come to is among these
abbrev pub AreAllRaces : Raw → ℕ → List Pair → Type 0
AreAllRaces program workers pairs = (ls : List Label) (s : State) (a b : Label) (x y : Access)
    → Leads (rules_of program workers) workers ls s → a.worker < workers → b.worker < workers
    → IsRace program workers s a b x y → Contains pairs (pair_at program s a b x y)

-- at least so many states can be reached
pub record AreReached (program : Raw) (workers count : ℕ) : Type 0 where
  pub states : List State
  pub reached : All (IsReached (rules_of program workers) workers) states
  pub different : AllDifferent states
  pub many : count ≤ length states

-- an exploration of a program with so many workers, within limits, answers this
pub record IsExplored (program : Raw) (workers : ℕ) (limits : Limits) (e : answers.Explored) : Type 0 where
  -- what is listed is there
  pub possible_ends : All (IsPossibleEnd program workers) e.ends
  pub possible_faults : All (IsPossibleFault program workers) e.faults
  pub possible_races : All (IsPossibleRace program workers) e.races
  -- and is listed once
  pub no_end_twice : AllDifferent (map ending_of_found e.ends)
  pub no_fault_twice : AllDifferent (map met_of_found e.faults)
  pub no_race_twice : AllDifferent (map pair_of_found e.races)
  -- where the answer is complete, what is there is listed
  pub all_ends : e.verdict ≡ Complete → AreAllEnds program workers (map ending_of_found e.ends)
  pub all_faults : e.verdict ≡ Complete → AreAllFaults program workers (map met_of_found e.faults)
  pub all_races : e.verdict ≡ Complete → AreAllRaces program workers (map pair_of_found e.races)
  -- as many states as were stored are reached, and differ: the start, and for each other one a step was made
  pub counted : AreReached program workers e.states
  pub begun : 1 ≤ e.states
  pub stepped : e.states ≤ e.steps + 1
  -- it is not complete only where more are reached than may be stored, and it stops only behind as many steps as may be
  -- made
  pub gave_up : e.verdict ≡ NotComplete → AreReached program workers (limits.states + 1)
  pub asked : e.verdict ≡ Stopped → limits.steps ≡ Some e.steps
  -- that runs go round is said only where one does
  pub round : e.goes_round ≡ true → GoesRound (rules_of program workers) workers
