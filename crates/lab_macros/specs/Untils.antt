-- What an `until` stands for.
use Rattle.std.specs.Prelude.{ℕ, List, [], ◌∷◌, ◌++◌, Option, None, Some, codes, decimal, option_map}
use Rattle.om_book.specs.Books.{BookView}
use Rattle.om_code.specs.declared.raw.Raw.{Raw}
use Rattle.om_shell_commands.specs.declared.command.Variable.{Variable}
use Rattle.om_shell_commands.specs.declared.value.GlobalCell.{GlobalCell}
use Rattle.om_shell_debugger.specs.declared.marks.Marks.{Marks}
use Rattle.om_shell_debugger.specs.Variables.{cell_of}
use Rattle.lab_macros.specs.declared.said.Said.{Said}
use Rattle.lab_macros.specs.declared.walk.Miss.{Miss}
use Rattle.lab_macros.specs.declared.walk.Miss.TheVariants.{Blocked, Faulted, Full, Far}
use Rattle.lab_macros.specs.declared.walk.Walk.{Walk}
use Rattle.lab_macros.specs.declared.walk.Walk.TheVariants.{There, Missed}
use Rattle.lab_macros.specs.Asked.{line_in, variable_in, worker_in}
use Rattle.lab_macros.specs.Sayings.{commands_said, times, words_said}
use Rattle.lab_macros.specs.Walks.{walk_of}

-- what stops a worker that comes from another line to this one
abbrev pub line_marks : ℕ → Marks
line_marks line = record { breaks = line ∷ []; watches = [] }

-- what stops a worker that changes this cell
abbrev pub cell_marks : GlobalCell → Marks
cell_marks cell = record { breaks = []; watches = cell ∷ [] }

abbrev pub global_marks : Raw → Variable → Option Marks
global_marks program variable = option_map cell_marks (cell_of program variable)

-- what stops a worker by a variable, where a word names one
abbrev pub marks_by : Raw → Option Variable → Option Marks
marks_by program None = None
marks_by program (Some variable) = global_marks program variable

-- what stops a worker by a line, or else by a variable
abbrev pub marks_for : Raw → Option ℕ → Option Variable → Option Marks
marks_for program (Some line) variable = Some (line_marks line)
marks_for program None variable = marks_by program variable

-- what stops a worker by the line, or the global variable, that a word names
abbrev pub marks_in : Raw → ℕ → List ℕ → Option Marks
marks_in program workers aim = marks_for program (line_in workers aim) (variable_in workers aim)

-- so many steps of a worker
abbrev pub walked : ℕ → ℕ → Said
walked worker steps = commands_said (times steps (codes "step " ++ decimal worker ++ codes "\n"))

abbrev pub far : ℕ → Said
far most = words_said (codes "until: not reached in " ++ decimal most ++ codes " steps")

-- why there are no such steps
abbrev pub missed : ℕ → Miss → Said
missed most Blocked = words_said (codes "until: a step before it can't be made")
missed most Faulted = words_said (codes "until: the worker meets a fault before it")
missed most Full = words_said (codes "until: full")
missed most Far = far most

abbrev pub walk_said : ℕ → ℕ → Walk → Said
walk_said most worker (There steps) = walked worker steps
walk_said most worker (Missed miss) = missed most miss

-- the steps of a worker up to where marks stop it
abbrev pub until_by : ℕ → ℕ → Marks → BookView → Said
until_by most worker marks b = walk_said most worker (walk_of most marks worker b)

abbrev pub wrong_until : Said
wrong_until = words_said (codes "until: H2 bad argument")

abbrev pub until_of : ℕ → BookView → Option ℕ → Option Marks → Said
until_of most b (Some worker) (Some marks) = until_by most worker marks b
until_of most b _ _ = wrong_until

-- `until W L` and `until W VAR`, where a book stands: the least number of steps of the worker by which it comes from
-- another line to this one, or by which it changes the variable, of so many at most
abbrev pub until_said : ℕ → BookView → List (List ℕ) → Said
until_said most b (until ∷ (worker ∷ (aim ∷ []))) =
    until_of most b (worker_in b.start.workers worker) (marks_in b.start.program b.start.workers aim)
until_said most b _ = wrong_until
