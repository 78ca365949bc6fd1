-- The rules of a program: the state that it starts in, and what each worker's step names, does and shows as its line.
use Rattle.std.specs.Prelude.{ℕ, pos, ℤ, Bool, true, false, nat_eq, nat_lt, if◌then◌else◌, Option, None, Some}
use Rattle.std.specs.Prelude.{option_map, unwrap_or, is_some, List, [], ◌∷◌, slice_get}
use Rattle.om_foot.specs.Names.{is_below}
use Rattle.om_foot.specs.declared.footprint.Access.{Access}
use Rattle.om_foot.specs.declared.object.Obj.TheVariants as obj
use Rattle.om_code.specs.declared.instruction.Instr.{Instr}
use Rattle.om_code.specs.declared.instruction.Instr.TheVariants as i
use Rattle.om_code.specs.declared.instruction.Function.TheVariants as calls
use Rattle.om_code.specs.declared.instruction.Team.TheVariants as teams
use Rattle.om_code.specs.declared.instruction.Task.TheVariants as taskings
use Rattle.om_code.specs.declared.raw.GlobalVariable.{GlobalVariable}
use Rattle.om_code.specs.declared.raw.Raw.{Raw}
use Rattle.om_code.specs.declared.frame.Cell.TheVariants as cell
use Rattle.om_code.specs.Places.{instruction_at, line_at}
use Rattle.om_events.specs.declared.event.Record.{Record}
use Rattle.om_events.specs.declared.event.Record.TheVariants as event_record
use Rattle.om_events.specs.declared.kind.Endpoint.TheVariants as endpoint
use Rattle.om_events.specs.declared.kind.Thread.TheVariants as thread
use Rattle.om_events.specs.declared.kind.TaskFlag.TheVariants as flag
use Rattle.om_events.specs.declared.kind.TaskStatus as statuses
use Rattle.om_events.specs.declared.kind.TaskStatus.TheVariants as status
use Rattle.om_state.specs.declared.control.Context.{Context}
use Rattle.om_state.specs.declared.control.Stack.{Stack}
use Rattle.om_state.specs.declared.control.Kind.TheVariants as kind
use Rattle.om_state.specs.declared.control.Control as controls
use Rattle.om_state.specs.declared.control.Control.TheVariants.{Idle, Running, Faulted}
use Rattle.om_state.specs.declared.control.Edit.TheVariants.{Fail}
use Rattle.om_state.specs.declared.step.Label.{Label}
use Rattle.om_state.specs.declared.step.Choice.{Choice}
use Rattle.om_state.specs.declared.step.Choice.TheVariants.{Next, Start}
use Rattle.om_state.specs.declared.step.Blocked.TheVariants as blocked
use Rattle.om_state.specs.declared.step.Outcome.{Outcome}
use Rattle.om_state.specs.declared.step.Outcome.TheVariants.{Updates, Blocked, Ended}
use Rattle.om_state.specs.declared.step.Update.TheVariants.{Put}
use Rattle.om_state.specs.declared.value.Val.{Val}
use Rattle.om_state.specs.declared.value.Val.TheVariants as value
use Rattle.om_state.specs.Edits.{changed}
use Rattle.om_state.specs.Values.{default_of, control_in}
use Rattle.om_state.specs.State.{State}
use Rattle.om_state.specs.Rules.{Rules}
use Rattle.om_team_serial.specs.declared.row.Row.{Row}
use Rattle.om_team_serial.specs.declared.row.Row.TheVariants as row
use Rattle.om_team_serial.specs.Rows.{Asked, decided}
use Rattle.om_team_serial.specs.Objects.{homes_for}
use Rattle.om_task.specs.Rows.{start_row}
use Rattle.om_team_serial.specs.Begins.{first_frame, new_context}
use Rattle.om_team_serial.specs.Sites.{Site, site, body_of}
use Rattle.om_task.specs.Table.{row_of}

-- the initial task, whose frame is at the first instruction of `main`
abbrev pub first_context : Raw → Context
first_context program = new_context kind.Initial 0 (0 ∷ []) (record { name = []; number = 0; size = 1; level = 0 })
    None (first_frame program.main (homes_for (0 ∷ []) 0 [] (body_of program program.main).slots))

abbrev pub first_control : Raw → ℕ → controls.Control
first_control program worker = if nat_eq worker 0 then Running (record { top = first_context program; below = [] })
    else Idle

-- C17 6.7.9p10: a global scalar begins with its initializer, else with 0, and so does each cell of an array
abbrev pub initial_in : Option GlobalVariable → ℤ
initial_in None = pos 0
initial_in (Some global) = unwrap_or (option_map (λ _. pos 0) global.length) global.initial

abbrev pub initial_at : Raw → ℕ → ℕ → ℤ
initial_at program variable index = if nat_eq index 0 then initial_in (slice_get program.globals variable) else pos 0

-- OMPT's callbacks for threads and implicit tasks: what is recorded before the first step
abbrev pub first_records : ℕ → ℕ → List Record
first_records workers worker =
    if nat_eq worker 0 then event_record.ThreadBegin thread.Initial ∷ event_record.ImplicitTask endpoint.Begin []
    (0 ∷ []) 1 1 flag.Initial ∷ []
    else if nat_lt worker workers then event_record.ThreadBegin thread.Worker ∷ [] else []

-- the state in which a program starts. Worker 0 runs the initial task, globals have their initial values, and each
-- worker has its first event records. All else is as by default.
abbrev pub start_of : Raw → ℕ → State
start_of program workers (obj.Control worker) = value.Control (first_control program worker)
start_of program workers (obj.Global variable index) = value.Cell (cell.Int (initial_at program variable index))
start_of program workers (obj.Events worker) = value.Events (first_records workers worker)
start_of program workers q = default_of q

-- the status of a task that is left for another one: OpenMP 5.2, 12.9. `None` where a worker is at no scheduling point
abbrev pub leaving : Option Instr → Option statuses.TaskStatus
leaving (Some (i.Team (teams.Depart barrier))) = Some status.Switch
leaving (Some (i.Team teams.Leave)) = Some status.Switch
leaving (Some (i.Task taskings.WaitEnd)) = Some status.Switch
leaving (Some (i.Task taskings.GroupEnd)) = Some status.Switch
leaving (Some (i.Function (calls.Finish has_value))) = Some status.Switch
leaving (Some (i.Task taskings.Yield)) = Some status.Yield
leaving _ = None

-- whether a worker of this control is at a scheduling point
abbrev pub is_at_scheduling_point : Raw → controls.Control → Bool
is_at_scheduling_point program (Running stack) = is_some (leaving (instruction_at program stack.top.frame.body
    stack.top.frame.next))
is_at_scheduling_point program _ = false

-- whether an instruction departs from a barrier
abbrev pub departs : Option Instr → Bool
departs (Some (i.Team (teams.Depart barrier))) = true
departs (Some (i.Team teams.Leave)) = true
departs _ = false

-- OpenMP 5.2, 12.9: a task may be started on a stack where it descends from each task there that isn't at a barrier
abbrev pub admits_on : Raw → List ℕ → Context → Bool
admits_on program name c = if departs (instruction_at program c.frame.body c.frame.next) then true else is_below
    name c.task

abbrev pub admits_all : Raw → List ℕ → List Context → Bool
admits_all program name [] = true
admits_all program name (c ∷ below) = if admits_on program name c then admits_all program name below else false

-- the row of the instruction at which a stack stands
abbrev pub next_row : Site → Option Instr → Asked
next_row s None = decided row.Lacks
next_row s (Some instr) = row_of s instr

-- the row of a choice
abbrev pub choice_row : Site → Option Instr → Choice → Asked
choice_row s instr Next = next_row s instr
choice_row s instr (Start name) = start_row (record {
  worker = s.worker;
  status = leaving instr;
  admits = admits_all
      s.program name (s.stack.top ∷ s.stack.below);
}) name s.stack.top

abbrev pub asked : Site → Choice → Asked
asked s choice = choice_row s (instruction_at s.program s.stack.top.frame.body s.stack.top.frame.next) choice

-- what comes of a row. A fault leaves the stack as it was; where something is missing, the worker has ended
abbrev pub outcome_after : controls.Control → Row → Outcome
outcome_after control (row.Goes edits updates) = Updates (Put (value.Control (changed edits control)) ∷ updates)
outcome_after control (row.Faults fault) = Updates (Put (value.Control (changed (Fail fault ∷ []) control)) ∷ [])
outcome_after control (row.Blocked b) = Blocked b
outcome_after control row.Lacks = Ended

-- what a worker's step names besides its control, by that control alone
abbrev pub further_in : Raw → ℕ → Label → controls.Control → List Access
further_in program workers l (Running stack) = (asked (site program workers l.worker stack) l.choice).names
further_in program workers l _ = []

-- the row of a control that runs, and of one that doesn't: a worker that is idle waits; one that is done or
-- faulted has ended
abbrev pub row_in : Raw → ℕ → Label → controls.Control → List Val → Row
row_in program workers l (Running stack) values = (asked (site program workers l.worker stack) l.choice).row values
row_in program workers l Idle values = row.Blocked blocked.Idle
row_in program workers l _ values = row.Lacks

-- what comes of a control and of the values read
abbrev pub outcome_of : Raw → ℕ → Label → List Val → Outcome
outcome_of program workers l [] = Ended
outcome_of program workers l (v ∷ values) = outcome_after (control_in v) (row_in program workers l (control_in v)
    values)

-- the line of the instruction that a control runs, or of the one that met its fault; 0 where there is none
abbrev pub line_in : Raw → controls.Control → ℕ
line_in program (Running stack) = line_at program stack.top.frame.body stack.top.frame.next
line_in program (Faulted fault stack) = line_at program stack.top.frame.body stack.top.frame.next
line_in program _ = 0

-- the rules of a program with this many workers
abbrev pub rules_of : Raw → ℕ → Rules
rules_of program workers = record {
  start = start_of program workers;
  further = λ l v. further_in program workers l (control_in v);
  outcome = λ l values. outcome_of program workers l values;
  line = λ l v. line_in program (control_in v);
}
