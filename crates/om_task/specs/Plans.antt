-- The step that is planned for a worker which has a control, and what a plan says of it.
use Rattle.std.specs.Prelude.{◌≡◌, ℕ, List, ◌∷◌}
use Rattle.om_foot.specs.declared.footprint.Access.{Access}
use Rattle.om_foot.specs.declared.object.Obj.TheVariants as obj
use Rattle.om_code.specs.declared.raw.Raw.{Raw}
use Rattle.om_state.specs.declared.control.Control.{Control}
use Rattle.om_state.specs.declared.step.Choice.{Choice}
use Rattle.om_state.specs.declared.step.Label.{Label}
use Rattle.om_state.specs.declared.step.Outcome.TheVariants as outcome
use Rattle.om_state.specs.declared.step.Step.{Step}
use Rattle.om_state.specs.Changes.{step_of}
use Rattle.om_state.specs.Edits.{HaveRoom}
use Rattle.om_state.specs.Rules.{control_access}
use Rattle.om_state.specs.Values.{control_in}
use Rattle.om_state.specs.State.{State, values_read}
use Rattle.om_team_serial.specs.declared.row.Answer.{Answer}
use Rattle.om_team_serial.specs.declared.row.Row.{Row}
use Rattle.om_team_serial.specs.declared.row.Row.TheVariants.{Goes}
use Rattle.om_task.specs.declared.planned.Plan.{Plan}
use Rattle.om_task.specs.declared.planned.Plan.TheVariants as plan
use Rattle.om_task.specs.Rules.{further_in, row_in, outcome_after, line_in}

-- the label of a worker by a choice
abbrev pub label_at : ℕ → Choice → Label
label_at worker choice = record { worker = worker; choice = choice }

-- what it names besides the control, and its row
abbrev pub answer_in : Raw → ℕ → State → Label → Control → Answer
answer_in program workers s l c = record {
  names = further_in program workers l c;
  row = row_in program workers l c
      (values_read (further_in program workers l c) s);
}

-- the step of that answer
abbrev pub step_by : Raw → Label → Control → Answer → Step
step_by program l c answer = record {
  footprint = control_access l ∷ answer.names;
  outcome = outcome_after c
      answer.row;
  line = line_in program c;
}

-- the edits of a row have room in the numbers that they count up
abbrev pub RowHasRoom : Control → Row → Type 0
RowHasRoom c (Goes edits updates) = HaveRoom edits c
RowHasRoom c _ = Unit {0}

-- what the choice of a worker touches that has this control
abbrev pub names_of : Raw → ℕ → Label → Control → List Access
names_of program workers l c = control_access l ∷ further_in program workers l c

-- what comes of it at a state, before the edits of the control are made
abbrev pub effect_at : Raw → ℕ → Label → State → Row
effect_at program workers l s = (answer_in program workers s l (control_in (s (obj.Control l.worker)))).row

-- a plan for a worker that has this control stands for a step: one that can be taken says all of it, with edits
-- for the put of the control; else it says what comes of it
abbrev pub StandsFor : Plan → Control → Step → Type 0
StandsFor (plan.Updates change) c d = d ≡ step_of c change
StandsFor (plan.Blocked b) c d = d.outcome ≡ outcome.Blocked b
StandsFor plan.Ended c d = d.outcome ≡ outcome.Ended

-- the edits of a plan have room in the numbers that they count up
abbrev pub PlanHasRoom : Control → Plan → Type 0
PlanHasRoom c (plan.Updates change) = HaveRoom change.edits c
PlanHasRoom c _ = Unit {0}
