-- Tasks that can be begun.
use Rattle.std.specs.Prelude.{◌≡◌, ℕ, true, Some, List}
use Rattle.om_code.specs.declared.raw.Raw.{Raw}
use Rattle.om_state.specs.declared.step.Choice.TheVariants.{Start}
use Rattle.om_state.specs.declared.step.Label.{Label}
use Rattle.om_state.specs.Ready.{is_ready_at}
use Rattle.om_state.specs.Rules.{next_state}
use Rattle.om_state.specs.State.{State}
use Rattle.om_task.specs.Rules.{rules_of}

-- the step that begins the task of a name
abbrev pub start_by : ℕ → List ℕ → Label
start_by worker task = record { worker = worker; choice = Start task }

-- a task that can be begun is ready
abbrev pub PossibleStartsAreReady : Type 0
PossibleStartsAreReady = (program : Raw) (workers worker : ℕ) (task : List ℕ) (s t : State)
    → next_state (rules_of program workers) s (start_by worker task) ≡ Some t → is_ready_at s task ≡ true
