-- What a line asks for.
use Rattle.std.specs.Prelude.{ℕ, ◌<◌, nat_lt, List, [], ◌∷◌, if◌then◌else◌, length, Option, None, Some, option_map}
use Rattle.om_shell_commands.specs.declared.command.Command.{Command}
use Rattle.om_shell_commands.specs.declared.command.Command.TheVariants as command
use Rattle.om_shell_commands.specs.declared.command.CommandFault.TheVariants.{UnknownCommand, BadArgument}
use Rattle.om_shell_commands.specs.declared.command.Request.{Request}
use Rattle.om_shell_commands.specs.declared.command.Request.TheVariants as request
use Rattle.om_shell_commands.specs.declared.verb.Verb.{Verb}
use Rattle.om_shell_commands.specs.declared.verb.Verb.TheVariants as verb
use Rattle.om_shell_commands.specs.Arguments.{one_worker, one_number, one_count, one_variable, behind_worker, worker_and_task}
use Rattle.om_shell_commands.specs.Arguments.{variable_of}
use Rattle.om_shell_commands.specs.Verbs.{verb_of}
use Rattle.om_shell_commands.specs.Words.{words_of}

-- a command of no word behind its own
abbrev pub alone : Command → List (List ℕ) → Option Command
alone c [] = Some c
alone c (word ∷ more) = None

-- `start W NAME`
abbrev pub start_of : ℕ → List (List ℕ) → Option Command
start_of workers words = option_map (λ (pair : ℕ × List ℕ). command.Start pair.0 pair.1) (worker_and_task workers words)

-- `print VAR` or `print W VAR`
abbrev pub print_of : ℕ → List (List ℕ) → Option Command
print_of workers (first ∷ (second ∷ [])) =
    behind_worker (λ worker word. option_map (λ variable. command.PrintLocal worker variable) (variable_of word))
    workers (first ∷ (second ∷ []))
print_of workers words = option_map (λ variable. command.Print variable) (one_variable words)

-- what a verb asks for with the words behind it, where they are what it takes
abbrev pub command_of : Verb → ℕ → List (List ℕ) → Option Command
command_of verb.Step workers words = option_map (λ worker. command.Step worker) (one_worker workers words)
command_of verb.Start workers words = start_of workers words
command_of verb.Undo workers words = option_map (λ worker. command.Undo worker) (one_worker workers words)
command_of verb.Next workers words = option_map (λ worker. command.Next worker) (one_worker workers words)
command_of verb.Back workers words = option_map (λ worker. command.Back worker) (one_worker workers words)
command_of verb.Print workers words = print_of workers words
command_of verb.Where workers words = option_map (λ worker. command.Where worker) (one_worker workers words)
command_of verb.History workers words = alone command.History words
command_of verb.Events workers words = option_map (λ worker. command.Events worker) (one_worker workers words)
command_of verb.Output workers words = alone command.Output words
command_of verb.Tasks workers words = alone command.Tasks words
command_of verb.Break workers words = option_map (λ line. command.Break line) (one_number words)
command_of verb.Watch workers words = option_map (λ variable. command.Watch variable) (one_variable words)
command_of verb.Delete workers words = option_map (λ line. command.Delete line) (one_number words)
command_of verb.Run workers words = option_map (λ steps. command.Run steps) (one_count words)
command_of verb.Free workers words = option_map (λ rounds. command.Free rounds) (one_number words)
command_of verb.Roll workers words = option_map (λ serial. command.Roll serial) (one_number words)
command_of verb.Quit workers words = alone command.Quit words

-- a wrong, missing or further word is a bad argument
abbrev pub taken : Option Command → Request
taken None = request.Fault BadArgument
taken (Some c) = request.Command c

-- a first word that is no verb is an unknown command
abbrev pub request_by : Option Verb → ℕ → List (List ℕ) → Request
request_by None workers words = request.Fault UnknownCommand
request_by (Some verb) workers words = taken (command_of verb workers words)

-- a line without a word asks for nothing
abbrev pub request_in : ℕ → List (List ℕ) → Request
request_in workers [] = request.Nothing
request_in workers (word ∷ words) = request_by (verb_of word) workers words

-- what the words of a line ask for
abbrev pub worded : ℕ → List ℕ → Request
worded workers line = request_in workers (words_of line)

-- a line of more than 1,024 bytes is a bad argument, whatever it holds
unfoldable pub request_of : ℕ → List ℕ → Request
request_of workers line = if nat_lt 1024 (length line) then request.Fault BadArgument else worded workers line

-- the worker of a command, where it has one, is one of those that there are
abbrev pub HasWorkerBelow : ℕ → Command → Type 0
HasWorkerBelow workers (command.Step worker) = worker < workers
HasWorkerBelow workers (command.Start worker task) = worker < workers
HasWorkerBelow workers (command.Undo worker) = worker < workers
HasWorkerBelow workers (command.Next worker) = worker < workers
HasWorkerBelow workers (command.Back worker) = worker < workers
HasWorkerBelow workers (command.PrintLocal worker variable) = worker < workers
HasWorkerBelow workers (command.Where worker) = worker < workers
HasWorkerBelow workers (command.Events worker) = worker < workers
HasWorkerBelow workers _ = Unit {0}

abbrev pub AsksWorkerBelow : ℕ → Request → Type 0
AsksWorkerBelow workers (request.Command c) = HasWorkerBelow workers c
AsksWorkerBelow workers _ = Unit {0}
