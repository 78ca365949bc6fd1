-- Words of a macro, as the commands of ompback take them.
use Rattle.std.specs.Prelude.{ℕ, List, ◌++◌, Option, None, Some, codes}
use Rattle.om_shell_commands.specs.declared.command.Command.TheVariants as command
use Rattle.om_shell_commands.specs.declared.command.Request.{Request}
use Rattle.om_shell_commands.specs.declared.command.Request.TheVariants as request
use Rattle.om_shell_commands.specs.declared.command.Variable.{Variable}
use Rattle.om_shell_commands.specs.Commands.{request_of}

abbrev pub worker_of : Request → Option ℕ
worker_of (request.Command (command.Where worker)) = Some worker
worker_of _ = None

-- the worker that a word names, as in `where W`
abbrev pub worker_in : ℕ → List ℕ → Option ℕ
worker_in workers word = worker_of (request_of workers (codes "where " ++ word))

abbrev pub line_of : Request → Option ℕ
line_of (request.Command (command.Break line)) = Some line
line_of _ = None

-- the line that a word names, as in `break L`
abbrev pub line_in : ℕ → List ℕ → Option ℕ
line_in workers word = line_of (request_of workers (codes "break " ++ word))

abbrev pub variable_of : Request → Option Variable
variable_of (request.Command (command.Watch variable)) = Some variable
variable_of _ = None

-- the variable that a word names, as in `watch VAR`
abbrev pub variable_in : ℕ → List ℕ → Option Variable
variable_in workers word = variable_of (request_of workers (codes "watch " ++ word))

abbrev pub count_of : Request → Option ℕ
count_of (request.Command (command.Run count)) = Some count
count_of _ = None

-- the number that a word names, as in `run K`: 1 to 100,000
abbrev pub count_in : ℕ → List ℕ → Option ℕ
count_in workers word = count_of (request_of workers (codes "run " ++ word))
