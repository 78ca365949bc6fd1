-- The steps that can be made at a state.
use Rattle.std.specs.Prelude.{◌≡◌, ℕ, ◌<◌, true, Option, None, Some, is_some, List, [], ◌∷◌, ◌++◌, map, All, Contains}
use Rattle.om_foot.specs.declared.footprint.Access.{Access}
use Rattle.om_state.specs.declared.step.Label.{Label}
use Rattle.om_state.specs.Rules.{next_state, step_at}
use Rattle.om_state.specs.State.{State}
use Rattle.om_task.specs.Rules.{line_in}
use Rattle.om_undo.specs.Machines.{MachineView, rules_for, state_in}
use Rattle.om_undo.specs.PlannedSteps.{touched_if_made}
use Rattle.lab_explore_closed.specs.Endings.{control_at}
use Rattle.lab_explore_closed.specs.Races.{atomicity_of, instruction_of}
use Rattle.lab_explore_moves.specs.declared.possible.PossibleStep.{PossibleStep}

abbrev pub label_of_possible : PossibleStep → Label
label_of_possible p = p.label

-- a step that a worker can make at a machine, as it is there
pub record IsPossible (m : MachineView) (p : PossibleStep) : Type 0 where
  pub worker : p.label.worker < m.workers
  pub possible : is_some (next_state (rules_for m) (state_in m) p.label) ≡ true
  pub line : p.line ≡ line_in m.program (control_at (state_in m) p.label.worker)
  pub instruction : p.instruction
      ≡ instruction_of m.program (control_at (state_in m) p.label.worker) p.label.choice
  pub atomicity : p.atomicity ≡ atomicity_of m.program (control_at (state_in m) p.label.worker) p.label.choice
  pub accesses : p.accesses ≡ (step_at (rules_for m) (state_in m) p.label).footprint

-- all steps that workers can make at a machine
pub record ArePossible (m : MachineView) (ps : List PossibleStep) : Type 0 where
  pub each : All (IsPossible m) ps
  pub all : (l : Label) (t : State) → l.worker < m.workers → next_state (rules_for m) (state_in m) l ≡ Some t
      → Contains (map label_of_possible ps) l

-- ---- as the code finds them

-- a step, with what it touches, where it can be made
abbrev pub possible_with : MachineView → Label → Option (List Access) → List PossibleStep
possible_with m l None = []
possible_with m l (Some accesses) = record {
  label = l;
  line = line_in m.program (control_at (state_in m) l.worker);
  instruction = instruction_of m.program (control_at (state_in m) l.worker) l.choice;
  atomicity = atomicity_of m.program (control_at (state_in m) l.worker) l.choice;
  accesses = accesses;
} ∷ []

abbrev pub possible_by : MachineView → Label → List PossibleStep
possible_by m l = possible_with m l (touched_if_made m l)

-- those of some steps that can be made
abbrev pub possible_among : MachineView → List Label → List PossibleStep
possible_among m [] = []
possible_among m (l ∷ ls) = possible_by m l ++ possible_among m ls
