-- What was found so far: each thing is there, and stands once.
use Rattle.std.specs.Prelude.{◌≡◌, ℕ, ◌<◌, Bool, false, not, nat_eq, ◌&&◌, List, map, All, Contains}
use Rattle.om_code.specs.declared.raw.Raw.{Raw}
use Rattle.om_foot.specs.declared.footprint.Access.{Access}
use Rattle.om_foot.specs.Footprint.{obj_eq, modes_conflict}
use Rattle.om_state.specs.declared.step.Label.{Label}
use Rattle.om_state.specs.State.{State}
use Rattle.om_task.specs.Rules.{rules_of}
use Rattle.om_undo.specs.Machines.{MachineView, rules_for, state_in}
use Rattle.om_undo_history.specs.Runs.{label_of}
use Rattle.lab_explore_closed.specs.declared.found.FoundEnd.{FoundEnd}
use Rattle.lab_explore_closed.specs.declared.found.FoundFault.{FoundFault}
use Rattle.lab_explore_closed.specs.declared.found.FoundRace.{FoundRace}
use Rattle.lab_explore_closed.specs.declared.found.Met.{Met}
use Rattle.lab_explore_closed.specs.Endings.{IsMet, ending_at}
use Rattle.lab_explore_closed.specs.Explored.{IsPossibleEnd, IsPossibleFault, IsPossibleRace}
use Rattle.lab_explore_closed.specs.Explored.{ending_of_found, met_of_found, pair_of_found}
use Rattle.lab_explore_closed.specs.Lists.{AllDifferent}
use Rattle.lab_explore_closed.specs.Races.{IsRace, pair_at, place_at, is_behind, is_data, are_atomic_together}
use Rattle.lab_explore_closed.specs.Runs.{Leads, IsEnd}
use Rattle.lab_explore_moves.specs.declared.possible.PossibleStep.{PossibleStep}
use Rattle.lab_explore_notes.specs.declared.notes.Notes as notes

-- each thing that is listed is right, and no two are told alike
pub record AreRight {F K : Type 0} (IsRight : F → Type 0) (told : F → K) (fs : List F) : Type 0 where
  pub each : All IsRight fs
  pub once : AllDifferent (map told fs)

-- what was told still is
abbrev pub Keeps : {F K : Type 0} → (F → K) → List F → List F → Type 0
Keeps {F} {K} told old new = (k : K) → Contains (map told old) k → Contains (map told new) k

abbrev pub AreEnds : Raw → ℕ → List FoundEnd → Type 0
AreEnds program workers fs = AreRight (IsPossibleEnd program workers) ending_of_found fs

abbrev pub AreFaults : Raw → ℕ → List FoundFault → Type 0
AreFaults program workers fs = AreRight (IsPossibleFault program workers) met_of_found fs

abbrev pub AreRaces : Raw → ℕ → List FoundRace → Type 0
AreRaces program workers fs = AreRight (IsPossibleRace program workers) pair_of_found fs

-- what is noted is there, and nothing is noted twice
pub record AreSound (program : Raw) (workers : ℕ) (n : notes.Notes) : Type 0 where
  pub ends : AreEnds program workers n.ends
  pub faults : AreFaults program workers n.faults
  pub races : AreRaces program workers n.races

-- what is at a state is noted
pub record IsNoted (program : Raw) (workers : ℕ) (n : notes.Notes) (s : State) : Type 0 where
  pub end : IsEnd (rules_of program workers) workers s
      → Contains (map ending_of_found n.ends) (ending_at program workers s)
  pub faults : (m : Met) → m.worker < workers → IsMet program s m → Contains (map met_of_found n.faults) m
  pub races : (a b : Label) (x y : Access) → a.worker < workers → b.worker < workers
      → IsRace program workers s a b x y → Contains (map pair_of_found n.races) (pair_at program s a b x y)

-- what was noted still is
pub record KeepsAll (old new : notes.Notes) : Type 0 where
  pub ends : Keeps ending_of_found old.ends new.ends
  pub faults : Keeps met_of_found old.faults new.faults
  pub races : Keeps pair_of_found old.races new.races

-- a machine stands where its entries lead, which are steps of its workers
abbrev pub IsOnWay : MachineView → Type 0
IsOnWay m = Leads (rules_for m) m.workers (map label_of m.history.entries) (state_in m)

-- ---- races, as the code looks for them

-- where two labels' accesses are a race at a machine, and the first one is not behind the second, it is noted
abbrev pub IsRaceNoted : MachineView → List FoundRace → Label → Label → Access → Access → Type 0
IsRaceNoted m fs a b x y = IsRace m.program m.workers (state_in m) a b x y
    → is_behind (place_at m.program (state_in m) a x) (place_at m.program (state_in m) b y) ≡ false
    → Contains (map pair_of_found fs) (pair_at m.program (state_in m) a b x y)

-- so for each access of the second
abbrev pub AreConflictsNoted : MachineView → List FoundRace → Label → Label → Access → List Access → Type 0
AreConflictsNoted m fs a b x ys = (y : Access) → Contains ys y → IsRaceNoted m fs a b x y

-- and for each of the first
abbrev pub AreMeetingsNoted : MachineView → List FoundRace → Label → Label → List Access → List Access → Type 0
AreMeetingsNoted m fs a b xs ys = (x : Access) → Contains xs x → AreConflictsNoted m fs a b x ys

-- races are added to those that were noted
pub record Adds (m : MachineView) (old new : List FoundRace) : Type 0 where
  pub right : AreRaces m.program m.workers new
  pub keeps : Keeps pair_of_found old new

-- whether two steps are of different workers
abbrev pub can_race : PossibleStep → PossibleStep → Bool
can_race p q = not (nat_eq p.label.worker q.label.worker)

-- whether two accesses are of one variable, and one of them writes it
abbrev pub meet : Access → Access → Bool
meet x y = is_data x.object && (obj_eq x.object y.object && modes_conflict x.mode y.mode)

-- whether accesses of two steps meet, and are not atomic together
abbrev pub are_racing : PossibleStep → Access → PossibleStep → Access → Bool
are_racing p x q y = meet x y && not (are_atomic_together p.atomicity x.mode q.atomicity y.mode)

-- each race of a step with one of these is noted
abbrev pub AreNotedOf : MachineView → List FoundRace → PossibleStep → List PossibleStep → Type 0
AreNotedOf m fs p qs = (q : PossibleStep) → Contains qs q
    → AreMeetingsNoted m fs p.label q.label p.accesses q.accesses

-- and of each of these
abbrev pub AreAllNoted : MachineView → List FoundRace → List PossibleStep → List PossibleStep → Type 0
AreAllNoted m fs ps qs = (p : PossibleStep) → Contains ps p → AreNotedOf m fs p qs

-- each fault that a worker has met at a machine is noted
abbrev pub AreMetsNoted : MachineView → List FoundFault → Type 0
AreMetsNoted m fs = (met : Met) → met.worker < m.workers → IsMet m.program (state_in m) met
    → Contains (map met_of_found fs) met
