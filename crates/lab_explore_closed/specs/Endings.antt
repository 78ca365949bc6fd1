-- Faults that are met, and what is left where no step can be made.
use Rattle.std.specs.Prelude.{◌≡◌, ℕ, zero, suc, Option, None, Some, List, [], ◌∷◌, ◌++◌}
use Rattle.om_code.specs.declared.frame.Fault.{Fault}
use Rattle.om_code.specs.declared.raw.Raw.{Raw}
use Rattle.om_foot.specs.declared.object.Obj.TheVariants as obj
use Rattle.om_state.specs.declared.control.Control as controls
use Rattle.om_state.specs.declared.control.Control.TheVariants.{Running, Faulted, Ended}
use Rattle.om_state.specs.declared.step.Blocked.{Blocked}
use Rattle.om_state.specs.declared.step.Choice.TheVariants.{Next}
use Rattle.om_state.specs.declared.step.Label.{Label}
use Rattle.om_state.specs.declared.step.Outcome as outcomes
use Rattle.om_state.specs.declared.step.Outcome.TheVariants as outcome
use Rattle.om_state.specs.Rules.{step_at}
use Rattle.om_state.specs.State.{State}
use Rattle.om_state.specs.Values.{control_in, bytes_in}
use Rattle.om_task.specs.Rules.{rules_of, line_in}
use Rattle.lab_explore_closed.specs.declared.found.Ending.{Ending}
use Rattle.lab_explore_closed.specs.declared.found.Ending.TheVariants.{Faults, Ends, Sticks}
use Rattle.lab_explore_closed.specs.declared.found.Met.{Met}
use Rattle.lab_explore_closed.specs.declared.found.Wait.{Wait}

-- what a worker is doing at a state
abbrev pub control_at : State → ℕ → controls.Control
control_at s worker = control_in (s (obj.Control worker))

-- the fault that a control met, if it did
abbrev pub fault_in : controls.Control → Option Fault
fault_in (Faulted fault stack) = Some fault
fault_in _ = None

-- at a state a worker has met this fault, at an instruction of this line
pub record IsMet (program : Raw) (s : State) (m : Met) : Type 0 where
  pub fault : fault_in (control_at s m.worker) ≡ Some m.fault
  pub line : m.line ≡ line_in program (control_at s m.worker)

-- the fault that a worker of this control has met, if it did
abbrev pub met_in : Raw → ℕ → controls.Control → List Met
met_in program worker (Faulted fault stack) =
    record { fault = fault; worker = worker; line = line_in program (Faulted fault stack) } ∷ []
met_in program worker _ = []

-- the faults that the first so many workers have met, by worker
abbrev pub mets_at : Raw → State → ℕ → List Met
mets_at program s zero = []
mets_at program s (suc worker) = mets_at program s worker ++ met_in program worker (control_at s worker)

-- a worker's next instruction
abbrev pub next_by : ℕ → Label
next_by worker = record { worker = worker; choice = Next }

-- why a step can't be made now
abbrev pub blocked_in : outcomes.Outcome → Option Blocked
blocked_in (outcome.Blocked why) = Some why
blocked_in _ = None

-- what a worker of this control waits for, if it runs
abbrev pub wait_in : Raw → ℕ → State → ℕ → controls.Control → List Wait
wait_in program workers s worker (Running stack) = record {
  worker = worker;
  line = line_in program (Running stack);
  blocked = blocked_in (step_at (rules_of program workers) s (next_by worker)).outcome;
} ∷ []
wait_in program workers s worker _ = []

-- what the first so many of the workers wait for, by worker
abbrev pub waits_at : Raw → ℕ → State → ℕ → List Wait
waits_at program workers s zero = []
waits_at program workers s (suc worker) =
    waits_at program workers s worker ++ wait_in program workers s worker (control_at s worker)

-- an ending, by the faults that were met, the control of the initial task's worker, what was printed, and who waits.
-- A program has not ended where another worker waits for ever, though its initial task has
abbrev pub ending_of : List Met → controls.Control → List ℕ → List Wait → Ending
ending_of (m ∷ ms) control output waits = Faults (m ∷ ms) output
ending_of [] (Ended value) output [] = Ends value output
ending_of [] _ output waits = Sticks output waits

-- the ending of a state at which no step can be made
abbrev pub ending_at : Raw → ℕ → State → Ending
ending_at program workers s = ending_of (mets_at program s workers) (control_at s 0) (bytes_in (s obj.Output))
    (waits_at program workers s workers)
