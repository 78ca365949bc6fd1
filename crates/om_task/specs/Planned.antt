-- For proofs: what a worker asks at a store, and the plan of its step.
use Rattle.std.specs.Prelude.{ℕ, Result, IfOk, List, ◌∷◌}
use Rattle.om_foot.specs.declared.footprint.Access.{Access}
use Rattle.om_foot.specs.declared.footprint.Mode.TheVariants as mode
use Rattle.om_foot.specs.declared.object.Obj.TheVariants as obj
use Rattle.om_code.specs.declared.raw.Raw.{Raw}
use Rattle.om_code.specs.Places.{instruction_at}
use Rattle.om_state.specs.declared.control.Control as plain_controls
use Rattle.om_state.specs.declared.step.Label.{Label}
use Rattle.om_state.specs.declared.step.Step.{Step}
use Rattle.om_memory.specs.declared.control.Control.{Control}
use Rattle.om_memory.specs.declared.control.Stack.{Stack}
use Rattle.om_memory.specs.declared.memory.Memory.{Memory}
use Rattle.om_memory.specs.Plain.{plain_control, plain_stack}
use Rattle.om_memory.specs.Memories.{state_of}
use Rattle.om_team_serial.specs.declared.row.Answer.{Answer}
use Rattle.om_team_serial.specs.declared.row.Row.{Row}
use Rattle.om_team_serial.specs.Rows.{Asked}
use Rattle.om_team_serial.specs.Sites.{site}
use Rattle.om_task.specs.declared.planned.Plan.{Plan}
use Rattle.om_task.specs.Plans.{answer_in, step_by, StandsFor}
use Rattle.om_task.specs.Rules.{asked, next_row, outcome_after}

-- what the instruction asks at which a worker stands
abbrev pub next_asked : Raw → ℕ → ℕ → Stack → Asked
next_asked program workers worker stack = next_row (site program workers worker (plain_stack stack))
    (instruction_at program (plain_stack stack).top.frame.body (plain_stack stack).top.frame.next)

-- what a worker's choice asks
abbrev pub choice_asked : Raw → ℕ → Label → Stack → Asked
choice_asked program workers l stack = asked (site program workers l.worker (plain_stack stack)) l.choice

-- what it names and what comes of it at a store, where the worker has this control
abbrev pub answer_by : Raw → ℕ → Label → Memory → Control → Answer
answer_by program workers l store control = answer_in program workers (state_of store) l (plain_control control)

-- the step of a worker that names this besides its control, by its row and its line
abbrev pub row_step : ℕ → List Access → plain_controls.Control → Row → ℕ → Step
row_step worker names c row line = record {
  footprint = record { object = obj.Control worker; mode = mode.Write } ∷ names;
  outcome = outcome_after c row;
  line = line;
}

-- a function plans this step of a worker that has this control, unless memory runs out
abbrev pub Plans : {E : Type 0} → Result Plan E → plain_controls.Control → Step → Type 0
Plans result c step = IfOk result (λ plan. StandsFor plan c step)

-- a function plans the step of a choice at a store, where the worker has this control
abbrev pub PlansBy : {E : Type 0} → Result Plan E → Raw → ℕ → Label → Memory → Control → Type 0
PlansBy result program workers l store control = Plans result (plain_control control) (step_by program l
    (plain_control control) (answer_by program workers l store control))
