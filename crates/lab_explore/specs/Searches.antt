-- What is true of a search between two things that it does.
use Rattle.std.specs.Prelude.{◌≡◌, ℕ, ◌+◌, ◌≤◌, ◌⊎◌, Bool, true, false, Some}
use Rattle.std.specs.Prelude.{None, List, ◌∷◌, map, length, All, Contains, Option}
use Rattle.om_code.specs.declared.raw.Raw.{Raw}
use Rattle.om_state.specs.declared.step.Entry.{Entry}
use Rattle.om_state.specs.declared.step.Label.{Label}
use Rattle.om_state.specs.State.{State}
use Rattle.om_task.specs.Rules.{rules_of}
use Rattle.om_undo.specs.Machines.{state_in}
use Rattle.lab_explore_closed.specs.declared.found.Limits.{Limits}
use Rattle.lab_explore_closed.specs.declared.found.Verdict.{Verdict}
use Rattle.lab_explore_closed.specs.declared.found.Verdict.TheVariants.{Complete, NotComplete, Stopped}
use Rattle.lab_explore_closed.specs.Explored.{AreAllEnds, AreAllFaults, AreAllRaces}
use Rattle.lab_explore_closed.specs.Explored.{ending_of_found, met_of_found, pair_of_found}
use Rattle.lab_explore_closed.specs.Lists.{AllDifferent}
use Rattle.lab_explore_closed.specs.Runs.{IsReached, GoesRound}
use Rattle.lab_explore_notes.specs.Notes.{AreSound, IsNoted, IsOnWay}
use Rattle.lab_explore_states.specs.Sets.{StandsAt, seen}
use Rattle.lab_explore.specs.declared.search.Search.{Search}
use Rattle.lab_explore.specs.Acts.{Act, Back, act_of, in_order, past_by, Stands, AllLead, AllLeadBut}

-- what is to be done by a search
abbrev pub acts_of : Search → List Act
acts_of x = map act_of x.todos

-- what can be told of a search whenever it stops: what is noted is there, and the stored states are reached and differ,
-- the start and at most one for each step
pub record IsSafe (program : Raw) (workers : ℕ) (x : Search) : Type 0 where
  pub sound : AreSound program workers x.notes
  pub reached : All (IsReached (rules_of program workers) workers) (seen x.stored).states
  pub different : AllDifferent (seen x.stored).states
  pub begun : 1 ≤ length (seen x.stored).states
  pub stepped : length (seen x.stored).states ≤ x.steps + 1
  pub round : x.goes_round ≡ true → GoesRound (rules_of program workers) workers

-- the machine stands where a run has led it, and its latest entries are those that the acts take back
pub record IsUnderWay (program : Raw) (workers : ℕ) (acts : List Act) (x : Search) : Type 0 where
  pub program_is : x.machine.program ≡ program
  pub workers_are : x.machine.workers ≡ workers
  pub steps_are : x.steps ≡ x.machine.history.made
  pub latest : List Entry
  pub entries : x.machine.history.entries ≡ in_order latest
  pub leads : IsOnWay x.machine
  pub stands_at : StandsAt x.machine (seen x.stored)
  pub past : (seen x.stored).past ≡ past_by (rules_of program workers) latest
  pub stands : Stands (rules_of program workers) workers (seen x.stored).states acts latest

-- each step from a stored state leads to one, or is still to be tried. What is at each of them is noted
pub record IsSearch (program : Raw) (workers : ℕ) (acts : List Act) (x : Search) : Type 0 where
  pub safe : IsSafe program workers x
  pub way : IsUnderWay program workers acts x
  pub start : Contains (seen x.stored).states (rules_of program workers).start
  pub closed : AllLead (rules_of program workers) workers (seen x.stored).states acts way.latest
  pub noted : (s : State) → Contains (seen x.stored).states s → IsNoted program workers x.notes s

-- so but for the state where the machine stands, which was stored and not looked at
pub record HasArrived (program : Raw) (workers : ℕ) (acts : List Act) (x : Search) : Type 0 where
  pub safe : IsSafe program workers x
  pub way : IsUnderWay program workers acts x
  pub start : Contains (seen x.stored).states (rules_of program workers).start
  pub here : Contains (seen x.stored).states (state_in x.machine)
  pub closed : AllLeadBut (rules_of program workers) workers (seen x.stored).states acts way.latest (state_in
      x.machine)
  pub noted : (s : State) → Contains (seen x.stored).states s
      → IsNoted program workers x.notes s ⊎ (state_in x.machine ≡ s)

-- what a search answers where it stops
pub record Answers (program : Raw) (workers : ℕ) (limits : Limits) (verdict : Verdict) (x : Search) : Type 0 where
  pub safe : IsSafe program workers x
  pub all_ends : verdict ≡ Complete → AreAllEnds program workers (map ending_of_found x.notes.ends)
  pub all_faults : verdict ≡ Complete → AreAllFaults program workers (map met_of_found x.notes.faults)
  pub all_races : verdict ≡ Complete → AreAllRaces program workers (map pair_of_found x.notes.races)
  pub gave_up : verdict ≡ NotComplete → limits.states + 1 ≤ length (seen x.stored).states
  pub asked : verdict ≡ Stopped → limits.steps ≡ Some x.steps

-- a search goes on, or stops with an answer
abbrev pub GoesOn : Raw → ℕ → Limits → Option Verdict → Search → Type 0
GoesOn program workers limits None x = IsSearch program workers (acts_of x) x
GoesOn program workers limits (Some verdict) x = Answers program workers limits verdict x

-- a step was made: to a new state, at which the search has arrived, with the step to be taken back later; or to one
-- that was stored, and then the step is taken back
abbrev pub Arrives : Raw → ℕ → Label → Bool → Search → Type 0
Arrives program workers l true x = HasArrived program workers (Back l.worker ∷ acts_of x) x
Arrives program workers l false x = IsSearch program workers (acts_of x) x
