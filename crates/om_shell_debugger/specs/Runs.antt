-- Runs: the least worker that has a move makes it, so many times at most.
use Rattle.std.specs.Prelude.{ℕ, zero, suc, ◌+◌, ◌-◌, ◌<◌, Bool, true, false, cond, List, [], ◌∷◌, Option, None, Some}
use Rattle.om_foot.specs.declared.object.Obj.TheVariants as object
use Rattle.om_state.specs.declared.control.Control as controls
use Rattle.om_state.specs.declared.control.Control.TheVariants as control
use Rattle.om_state.specs.declared.step.Choice.{Choice}
use Rattle.om_state.specs.declared.step.Choice.TheVariants.{Next, Start}
use Rattle.om_state.specs.declared.step.Label.{Label}
use Rattle.om_state.specs.Values.{control_in}
use Rattle.om_shell_commands.specs.declared.stop.Stop.{Stop}
use Rattle.om_shell_commands.specs.declared.stop.Stop.TheVariants as stop
use Rattle.om_shell_commands.specs.Steps.{full_text}
use Rattle.om_shell_commands.specs.Stops.{ran_text}
use Rattle.om_undo.specs.Machines.{MachineView, state_in, step_reply}
use Rattle.om_undo.specs.PlannedSteps.{PlannedView, planned_at}
use Rattle.om_shell_debugger.specs.declared.marks.Marks.{Marks}
use Rattle.om_shell_debugger.specs.declared.runs.Moved.{Moved}
use Rattle.om_shell_debugger.specs.declared.runs.Moved.TheVariants as moved
use Rattle.om_undo.specs.ReadyNames.{ready_names}
use Rattle.om_book.specs.Books.{BookView, is_full, machine_of}
use Rattle.om_book_journal.specs.Runs.{is_step_made}
use Rattle.om_book_journal.specs.declared.reply.Reply.TheVariants as reply
use Rattle.om_task.specs.Plans.{label_at}
use Rattle.om_shell_debugger.specs.Calls.{with_step}
use Rattle.om_shell_debugger.specs.Said.{Said}
use Rattle.om_shell_debugger.specs.Stops.{stop_after}

-- a worker can make a step by a choice
abbrev pub can_step : MachineView → ℕ → Choice → Bool
can_step m worker choice = is_step_made (reply.Step (step_reply m (label_at worker choice)))

-- the start of the first of the names with which a worker can begin
abbrev pub start_among : MachineView → ℕ → List (List ℕ) → Option Choice
start_among m worker [] = None
start_among m worker (name ∷ names) = cond (can_step m worker (Start name)) (Some (Start name))
    (start_among m worker names)

-- a worker's move: its next step where it can make it, else the start of the least ready task that it can begin
abbrev pub move_of : MachineView → ℕ → Option Choice
move_of m worker = cond (can_step m worker Next) (Some Next) (start_among m worker (ready_names m))

abbrev pub move_or : ℕ → Option Choice → Option Label → Option Label
move_or worker (Some choice) other = Some (label_at worker choice)
move_or worker None other = other

-- the move of the least of the last so many workers that has one
unfoldable pub move_among : MachineView → ℕ → Option Label
move_among m zero = None
move_among m (suc more) = move_or (m.workers - suc more) (move_of m (m.workers - suc more)) (move_among m more)

-- the move of the least worker that has one
unfoldable pub first_move : MachineView → Option Label
first_move m = move_among m m.workers

-- the step of a move, as it is planned where the machine stands
abbrev pub planned_move : MachineView → Option Label → Option PlannedView
planned_move m None = None
planned_move m (Some label) = Some (planned_at m label)

-- the planned step of a worker by a choice, where there is a choice
abbrev pub planned_for : MachineView → ℕ → Option Choice → Option PlannedView
planned_for m worker choice = planned_move m (move_or worker choice None)

-- the planned step of a label, where this is true
abbrev pub planned_if : MachineView → Bool → Label → Option PlannedView
planned_if m can label = cond can (Some (planned_at m label)) None

-- the step of a worker by a choice, where it can be made
abbrev pub planned_by : MachineView → ℕ → Choice → Option PlannedView
planned_by m worker choice = planned_if m (can_step m worker choice) (label_at worker choice)

-- the start of the least ready task that a worker can begin
abbrev pub planned_start : MachineView → ℕ → Option PlannedView
planned_start m worker = planned_for m worker (start_among m worker (ready_names m))

-- the planned step of a worker's move, where it has one
abbrev pub planned_of : MachineView → ℕ → Option PlannedView
planned_of m worker = planned_for m worker (move_of m worker)

-- the planned step of the move of the least of the last so many workers that has one
abbrev pub planned_among : MachineView → ℕ → Option PlannedView
planned_among m last = planned_move m (move_among m last)

-- a planned step is one of the first so many workers
abbrev pub IsOfWorkerBelow : ℕ → PlannedView → Type 0
IsOfWorkerBelow workers p = p.label.worker < workers

-- the initial task has ended
abbrev pub has_ended : controls.Control → Bool
has_ended (control.Ended value) = true
has_ended _ = false

-- why a run stops where no worker has a move
abbrev pub stop_without_move : MachineView → Stop
stop_without_move m = cond (has_ended (control_in (state_in m (object.Control 0)))) stop.Ended stop.Stuck

abbrev pub ran : BookView → ℕ → Stop → Said
ran b made why = record { text = ran_text b.start.program made why; book = b }

-- what a run says behind so many steps, where no worker has a move
abbrev pub rest_text : BookView → ℕ → List ℕ
rest_text b made = ran_text b.start.program made (stop_without_move (machine_of b))

abbrev pub stopped_by : Option Stop → Moved
stopped_by None = moved.GoesOn
stopped_by (Some why) = moved.Stopped why

-- what comes of a move, where there is one
abbrev pub moved_by : Marks → BookView → Option Label → Moved
moved_by marks b None = moved.NoMove
moved_by marks b (Some label) = cond (is_full b) moved.Full
    (stopped_by (stop_after marks b label))

-- what a move leaves, where there is one
abbrev pub behind_move : BookView → Option Label → BookView
behind_move b None = b
behind_move b (Some label) = cond (is_full b) b (with_step b label)

-- what comes of the first move, and what it leaves
abbrev pub moved_of : Marks → BookView → Moved
moved_of marks b = moved_by marks b (first_move (machine_of b))

abbrev pub after_move : BookView → BookView
after_move b = behind_move b (first_move (machine_of b))

-- what is said by what came of a move and what it left, behind so many others; where the run goes on, the rest
abbrev pub said_by : Moved → ℕ → BookView → Said → Said
said_by moved.NoMove made after rest = ran after made (stop_without_move (machine_of after))
said_by moved.Full made after rest = record { text = full_text; book = after }
said_by (moved.Stopped why) made after rest = ran after (made + 1) why
said_by moved.GoesOn made after rest = rest

-- a run of so many further steps at most, behind those that it made
unfoldable pub run_within : ℕ → ℕ → Marks → BookView → Said
run_within zero made marks b = ran b made stop.Limit
run_within (suc left) made marks b = said_by (moved_of marks b) made (after_move b)
    (run_within left (made + 1) marks (after_move b))

-- `run K`
abbrev pub run_said : ℕ → Marks → BookView → Said
run_said steps marks b = run_within steps 0 marks b
