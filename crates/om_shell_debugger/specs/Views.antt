-- What a line of commands is answered, and what it leaves.
use Rattle.std.specs.Prelude.{◌≡◌, ℕ, Bool, true, false, List, [], ◌∷◌, ◌++◌, Option, None, Some, Vec}
use Rattle.std.specs.declared.alloc.Global.{Global}
use Rattle.om_state.specs.declared.step.Choice.TheVariants.{Next}
use Rattle.om_shell_commands.specs.declared.command.Command.{Command}
use Rattle.om_shell_commands.specs.declared.command.Command.TheVariants as command
use Rattle.om_shell_commands.specs.declared.command.CommandFault.{CommandFault}
use Rattle.om_shell_commands.specs.declared.command.CommandFault.TheVariants.{BadArgument}
use Rattle.om_shell_commands.specs.declared.command.Request.{Request}
use Rattle.om_shell_commands.specs.declared.command.Request.TheVariants as request
use Rattle.om_shell_commands.specs.declared.command.Variable.{Variable}
use Rattle.om_shell_commands.specs.Commands.{request_of}
use Rattle.om_shell_commands.specs.declared.value.GlobalCell.{GlobalCell}
use Rattle.om_shell_commands.specs.Steps.{command_fault_text}
use Rattle.om_shell_commands.specs.Stops.{break_text, deleted_text, watch_text}
use Rattle.om_code.specs.declared.raw.Raw.{Raw}
use Rattle.om_shell_debugger.specs.declared.debugger.Debugger.{Debugger}
use Rattle.om_shell_debugger.specs.declared.local.Seen.{Seen}
use Rattle.om_shell_debugger.specs.declared.local.Seen.TheVariants as seen
use Rattle.om_shell_debugger.specs.declared.marks.Marks.{Marks}
use Rattle.om_shell_debugger.specs.Freed.{FreeRun, no_run, free_said}
use Rattle.om_shell_debugger.specs.Looks.{local_said, print_said, where_said, history_said, events_said, output_said, tasks_said}
use Rattle.om_shell_debugger.specs.Locals.{worker_sees}
use Rattle.om_shell_debugger.specs.Marked.{with_break, with_watch, without_break}
use Rattle.om_shell_debugger.specs.Moves.{start_said, step_said, undo_said, next_said, back_said, roll_said}
use Rattle.om_book.specs.Books.{machine_of}
use Rattle.om_book_journal.specs.Runs.{fresh}
use Rattle.om_shell_debugger.specs.Runs.{run_said}
use Rattle.om_shell_debugger.specs.Said.{Said}
use Rattle.om_shell_commands.specs.Texts.{Writes}
use Rattle.om_shell_debugger.specs.Stops.{has_line}
use Rattle.om_shell_debugger.specs.Variables.{cell_of}

-- what is written for a command, and what it leaves
pub record Told : Type 0 where
  pub text : List ℕ
  pub view : Debugger

-- what is written for a line, what it leaves, whether the session is over, and the free runs that are still to come
pub record Answer : Type 0 where
  pub text : List ℕ
  pub view : Debugger
  pub quits : Bool
  pub runs : List FreeRun

-- at the start of a program nothing is marked
abbrev pub opened : Raw → ℕ → Debugger
opened program workers = record {
  book = record { start = fresh program workers; journal = [] };
  marks = record { breaks = []; watches = [] };
}

-- a text that changes nothing
abbrev pub told : Debugger → List ℕ → Told
told d text = record { text = text; view = d }

abbrev pub refused : Debugger → CommandFault → Told
refused d fault = told d (command_fault_text fault)

-- what a command says that calls the book
abbrev pub called : Debugger → Said → Told
called d said = record { text = said.text; view = record d { book = said.book } }

-- a text, and other marks
abbrev pub marked : Debugger → List ℕ → Marks → Told
marked d text marks = record { text = text; view = record d { marks = marks } }

-- what is answered by a cell, where the variable names one
abbrev pub by_cell : Debugger → Option GlobalCell → (GlobalCell → Told) → Told
by_cell d None answer = refused d BadArgument
by_cell d (Some cell) answer = answer cell

-- `print VAR`
abbrev pub global_told : Debugger → Variable → Told
global_told d variable = by_cell d (cell_of d.book.start.program variable)
    (λ cell. called d (print_said cell d.book))

-- `print W VAR`, by what the worker sees
abbrev pub local_told : Debugger → Variable → Seen → Told
local_told d variable (seen.Global cell) = called d (print_said cell d.book)
local_told d variable (seen.Cell cell) = called d (local_said variable cell d.book)
local_told d variable seen.Nothing = refused d BadArgument

-- what a command is answered, by what the free run does if it is one
abbrev pub obeyed : Debugger → FreeRun → Command → Told
obeyed d run (command.Step worker) = called d (step_said worker Next d.book)
obeyed d run (command.Start worker task) = called d (start_said worker task d.book)
obeyed d run (command.Undo worker) = called d (undo_said worker d.book)
obeyed d run (command.Next worker) = called d (next_said 9999 worker d.book)
obeyed d run (command.Back worker) = called d (back_said 9999 worker d.book)
obeyed d run (command.Print variable) = global_told d variable
obeyed d run (command.PrintLocal worker variable) =
    local_told d variable (worker_sees (machine_of d.book) worker variable)
obeyed d run (command.Where worker) = called d (where_said worker d.book)
obeyed d run command.History = called d (history_said d.book)
obeyed d run (command.Events worker) = called d (events_said worker d.book)
obeyed d run command.Output = called d (output_said d.book)
obeyed d run command.Tasks = called d (tasks_said d.book)
obeyed d run (command.Break line) = marked d (break_text line) (with_break line d.marks)
obeyed d run (command.Watch variable) = by_cell d (cell_of d.book.start.program variable)
    (λ cell. marked d (watch_text d.book.start.program cell) (with_watch cell d.marks))
obeyed d run (command.Delete line) = marked d (deleted_text line (has_line d.marks.breaks line))
    (without_break line d.marks)
obeyed d run (command.Run steps) = called d (run_said steps d.marks d.book)
obeyed d run (command.Free rounds) = called d (free_said run d.book)
obeyed d run (command.Roll serial) = called d (roll_said serial d.book)
obeyed d run command.Quit = told d []

-- what is asked is answered
abbrev pub answer_to : Debugger → FreeRun → Request → Told
answer_to d run request.Nothing = told d []
answer_to d run (request.Command c) = obeyed d run c
answer_to d run (request.Fault fault) = refused d fault

-- only `quit` ends a session
abbrev pub is_quit : Request → Bool
is_quit (request.Command command.Quit) = true
is_quit _ = false

-- how many rounds a free run is asked for, where one is
abbrev pub rounds_asked : Request → Option ℕ
rounds_asked (request.Command (command.Free rounds)) = Some rounds
rounds_asked _ = None

abbrev pub first_run : List FreeRun → FreeRun
first_run [] = no_run
first_run (run ∷ runs) = run

abbrev pub further_runs : List FreeRun → List FreeRun
further_runs [] = []
further_runs (run ∷ runs) = runs

-- the free runs that are to come behind a request
abbrev pub runs_behind : Option ℕ → List FreeRun → List FreeRun
runs_behind None runs = runs
runs_behind (Some rounds) runs = further_runs runs

-- what a request is answered, by what the free runs from here on do
abbrev pub answer_by : Debugger → List FreeRun → Request → Answer
answer_by d runs asked = record {
  text = (answer_to d (first_run runs) asked).text;
  view = (answer_to d (first_run runs) asked).view;
  quits = is_quit asked;
  runs = runs_behind (rounds_asked asked) runs;
}

-- what a line is answered
unfoldable pub answered : Debugger → List FreeRun → List ℕ → Answer
answered d runs line = answer_by d runs (request_of d.book.start.workers line)

-- the free runs that a line has; and whatever runs follow these, this is what it is answered
pub record IsAnswered (d : Debugger) (line text : List ℕ) (view : Debugger) (quits : Bool) : Type 0 where
  pub runs : List FreeRun
  pub is : (later : List FreeRun) → answered d (runs ++ later) line
      ≡ record { text = text; view = view; quits = quits; runs = later }

-- what is told is written behind a text, and the debugger that it leaves is this one
abbrev pub Tells : Told → (old new : Vec ℕ Global) → Debugger → Type 0
Tells told old new view = Writes told.text old new × (view ≡ told.view)

-- a debugger carries out a command that is no free run
abbrev pub Obeys : Debugger → Command → (old new : Vec ℕ Global) → Debugger → Type 0
Obeys d c old new view = Tells (obeyed d no_run c) old new view

-- a debugger carries out `print W VAR`
abbrev pub PrintsFor : Debugger → ℕ → Variable → (old new : Vec ℕ Global) → Debugger → Type 0
PrintsFor d worker variable old new view = Obeys d (command.PrintLocal worker variable) old new view

-- a debugger answers a request that asks for no free run
abbrev pub AnswersRequest : Debugger → Request → (old new : Vec ℕ Global) → Debugger → Type 0
AnswersRequest d asked old new view = Tells (answer_to d no_run asked) old new view
