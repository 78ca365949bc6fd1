-- Laws of scripts.
use Rattle.std.specs.Prelude.{◌≡◌, ℕ, List, [], Option, None, Result}
use Rattle.std.specs.List.{AllByRecursion}
use Rattle.om_shell_commands.specs.Commands.{request_of}
use Rattle.om_lexer.specs.declared.fault.SourceFault.{SourceFault}
use Rattle.om_code.specs.declared.raw.Raw.{Raw}
use Rattle.om_shell_debugger.specs.declared.debugger.Debugger.{Debugger}
use Rattle.om_shell_debugger.specs.Freed.{FreeRun}
use Rattle.om_shell_debugger.specs.Views.{rounds_asked}
use Rattle.om_shell.specs.Script.{commands_of, script_by, IsScript}
use Rattle.om_shell.specs.Transcript.{Transcript}

-- whatever the number of workers, the line asks for no free run
abbrev pub AsksNoFreeRun : List ℕ → Type 0
AsksNoFreeRun line = (workers : ℕ) → rounds_asked (request_of workers line) ≡ None

-- where no command is a free run, a verdict makes one script of an input: the list of free runs changes nothing
abbrev pub OneScriptByVerdict : Type 0
OneScriptByVerdict = (verdict : Result Raw SourceFault) (workers : ℕ) (runs : List FreeRun) (given : Option (List ℕ))
    (input : List ℕ)
    → AllByRecursion AsksNoFreeRun (commands_of given input)
    → script_by verdict workers runs given input ≡ script_by verdict workers [] given input

-- so an input has at most one script then
abbrev pub OneScript : Type 0
OneScript = (workers : ℕ) (given : Option (List ℕ)) (input : List ℕ) (one other : Transcript Debugger)
    → AllByRecursion AsksNoFreeRun (commands_of given input)
    → IsScript workers given input one → IsScript workers given input other → one ≡ other
