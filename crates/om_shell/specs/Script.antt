-- The script: what a run writes for the bytes that it takes, and the view that it leaves. What the free runs among its
-- commands do depends on the order in which their threads come to the lock, so a list of that is part of a script.
use Rattle.std.specs.Prelude.{◌≡◌, ℕ, List, Option, None, Some, Result, Ok, Err}
use Rattle.std.specs.Str.Lines.{lines}
use Rattle.om_lexer.specs.declared.fault.SourceFault.{SourceFault}
use Rattle.om_shell.specs.Lines.{parts_of, source_in, commands_in, kept}
use Rattle.om_shell.specs.Places.{refusal_text}
use Rattle.om_shell.specs.Sessions.{session}
use Rattle.om_shell.specs.Transcript.{Transcript}
use Rattle.om_frontend.specs.Verdict.{IsVerdict}
use Rattle.om_code.specs.declared.raw.Raw.{Raw}
use Rattle.om_book.specs.Books.{BookView}
use Rattle.om_shell_debugger.specs.declared.debugger.Debugger.{Debugger}
use Rattle.om_shell_debugger.specs.Freed.{FreeRun}
use Rattle.om_shell_debugger.specs.Views.{opened}

-- the source of a run: it is handed in, or is what is kept of the bytes in front of the mark's line
abbrev pub source_of : Option (List ℕ) → List ℕ → List ℕ
source_of (Some source) input = source
source_of None input = kept (source_in (parts_of input))

-- the lines of commands
abbrev pub commands_of : Option (List ℕ) → List ℕ → List (List ℕ)
commands_of (Some source) input = lines input
commands_of None input = commands_in (parts_of input)

-- the answers to the commands, by a source's program; or the one line of its refusal, and no command is run
abbrev pub transcript_of : Result Raw SourceFault → ℕ → List FreeRun → List ℕ → List (List ℕ) → Transcript Debugger
transcript_of (Ok program) workers runs source commands = session (opened program workers) runs commands
transcript_of (Err fault) workers runs source commands = record { text = refusal_text source fault; view = None }

-- what a verdict on the source makes of a run's input
abbrev pub script_by : Result Raw SourceFault → ℕ → List FreeRun → Option (List ℕ) → List ℕ → Transcript Debugger
script_by verdict workers runs given input = transcript_of verdict workers runs (source_of given input)
    (commands_of given input)

-- the book that a script leaves: that of its debugger, where the source is accepted
abbrev pub book_of : Option Debugger → Option BookView
book_of None = None
book_of (Some d) = Some d.book

-- a script of a run's input
pub record IsScript (workers : ℕ) (given : Option (List ℕ)) (input : List ℕ) (script : Transcript Debugger) : Type 0
  where
    pub verdict : Result Raw SourceFault
    pub judged : IsVerdict (source_of given input) verdict
    pub runs : List FreeRun
    pub is : script ≡ script_by verdict workers runs given input
