-- The steps that are tried at a state.
use Rattle.std.specs.Prelude.{◌≡◌, ℕ, zero, suc, ◌<◌, Some, List, [], ◌∷◌, ◌++◌, map, Contains}
use Rattle.om_state.specs.declared.step.Label.{Label}
use Rattle.om_state.specs.Rules.{next_state}
use Rattle.om_state.specs.State.{State}
use Rattle.om_undo.specs.Machines.{MachineView, rules_for, state_in}
use Rattle.lab_explore_closed.specs.Endings.{next_by}
use Rattle.lab_explore_closed.specs.Runs.{AreOf}
use Rattle.lab_explore_closed.specs.Starts.{start_by}

-- a worker's next instruction, and the start of each of these tasks by it
abbrev pub letters_of : ℕ → List (List ℕ) → List Label
letters_of worker names = next_by worker ∷ map (λ (name : List ℕ). start_by worker name) names

-- those of the first so many workers
abbrev pub letters_below : List (List ℕ) → ℕ → List Label
letters_below names zero = []
letters_below names (suc worker) = letters_below names worker ++ letters_of worker names

-- steps of a machine's workers, among which each one is that can be made
pub record AreLetters (m : MachineView) (letters : List Label) : Type 0 where
  pub own : AreOf m.workers letters
  pub each : (l : Label) (t : State) → l.worker < m.workers → next_state (rules_for m) (state_in m) l ≡ Some t
      → Contains letters l
