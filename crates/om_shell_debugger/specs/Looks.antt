-- The commands that look and change nothing.
use Rattle.std.specs.Prelude.{ℕ, List, [], ◌∷◌}
use Rattle.om_code.specs.declared.raw.Raw.{Raw}
use Rattle.om_foot.specs.declared.object.Obj.{Obj}
use Rattle.om_foot.specs.declared.object.Obj.TheVariants as object
use Rattle.om_state.specs.declared.value.Task as tasks
use Rattle.om_state.specs.declared.value.Task.TheVariants as task
use Rattle.om_state.specs.declared.value.Val.{Val}
use Rattle.om_state.specs.State.{State}
use Rattle.om_state.specs.Values.{bytes_in, control_in, records_in, task_in}
use Rattle.om_shell_commands.specs.declared.command.Variable.{Variable}
use Rattle.om_shell_commands.specs.declared.value.GlobalCell.{GlobalCell}
use Rattle.om_shell_commands.specs.Lists.{history_text, events_text, output_text, task_text, no_tasks_text, joined}
use Rattle.om_shell_commands.specs.Places.{where_text}
use Rattle.om_shell_commands.specs.Values.{local_text, print_text}
use Rattle.om_task.specs.Rules.{line_in}
use Rattle.om_undo.specs.Machines.{MachineView, state_in}
use Rattle.om_undo.specs.ReadyNames.{ready_names}
use Rattle.om_book.specs.Books.{BookView, machine_of}
use Rattle.om_book_journal.specs.declared.command.Command.TheVariants as call
use Rattle.om_book_journal.specs.declared.command.Query.{Query}
use Rattle.om_book_journal.specs.declared.command.Query.TheVariants as query
use Rattle.om_shell_debugger.specs.Calls.{with_debugger_call}
use Rattle.om_shell_debugger.specs.Said.{Said, unless_full}

-- a text for which the machine was asked a question
abbrev pub looked : BookView → Query → List ℕ → Said
looked b question text = unless_full b (record { text = text; book = with_debugger_call b (call.Look question) })

-- a text by what an object holds
abbrev pub looked_at : BookView → Obj → List ℕ → Said
looked_at b object text = looked b (query.Value object) text

-- `print VAR`
abbrev pub print_said : GlobalCell → BookView → Said
print_said cell b =
    let at : Obj = object.Global cell.variable cell.index in
    looked_at b at (print_text b.start.program cell (state_in (machine_of b) at))

-- `print W VAR`, where the worker sees a cell
abbrev pub local_said : Variable → Obj → BookView → Said
local_said variable cell b = looked_at b cell (local_text variable (state_in (machine_of b) cell))

-- the line of a worker's next instruction
abbrev pub line_at : MachineView → ℕ → ℕ
line_at m worker = line_in m.program (control_in (state_in m (object.Control worker)))

-- what a worker is doing, by the value of its control
abbrev pub control_text : ℕ → Raw → Val → List ℕ
control_text worker program value = where_text worker (control_in value) (line_in program (control_in value))

-- `where W`
abbrev pub where_said : ℕ → BookView → Said
where_said worker b =
    let control = control_in (state_in (machine_of b) (object.Control worker)) in
    looked_at b (object.Control worker) (where_text worker control (line_in b.start.program control))

-- `history`
abbrev pub history_said : BookView → Said
history_said b = looked b query.Entries (history_text (machine_of b).history.entries)

-- `events W`
abbrev pub events_said : ℕ → BookView → Said
events_said worker b =
    looked_at b (object.Events worker) (events_text (records_in (state_in (machine_of b) (object.Events worker))))

-- `output`
abbrev pub output_said : BookView → Said
output_said b = looked_at b object.Output (output_text (bytes_in (state_in (machine_of b) object.Output)))

-- the line of the directive of a task that is ready; 0 for another one
abbrev pub directive_line : tasks.Task → ℕ
directive_line (task.Ready ready) = ready.line
directive_line _ = 0

abbrev pub ready_line : State → List ℕ → List ℕ
ready_line s name = task_text name (directive_line (task_in (s (object.Task name))))

-- tasks that are ready, each on a line
abbrev pub ready_text : MachineView → List (List ℕ) → List ℕ
ready_text m names = joined (ready_line (state_in m)) names

abbrev pub tasks_text : State → List (List ℕ) → List ℕ
tasks_text s [] = no_tasks_text
tasks_text s (name ∷ names) = joined (ready_line s) (name ∷ names)

-- `tasks`
abbrev pub tasks_said : BookView → Said
tasks_said b = looked b query.Ready (tasks_text (state_in (machine_of b)) (ready_names (machine_of b)))
