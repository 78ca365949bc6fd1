-- What is written for lines of commands, and what they leave.
use Rattle.std.specs.Prelude.{Bool, true, false, cond, ℕ, List, [], ◌∷◌, ◌++◌, Option, Some}
use Rattle.std.specs.Str.Lines.{lines}
use Rattle.om_shell.specs.Batch.{Answers}
use Rattle.om_shell.specs.Progress.{Moment, Advance}
use Rattle.om_shell.specs.Transcript.{Transcript, after_text}
use Rattle.om_shell_debugger.specs.declared.debugger.Debugger.{Debugger}
use Rattle.om_shell_debugger.specs.Freed.{FreeRun}
use Rattle.om_shell_debugger.specs.Views.{Answer, answered}

-- nothing more is written
abbrev pub over : Debugger → Transcript Debugger
over d = record { text = []; view = Some d }

-- an answer, and then what follows it, unless it ends the session
abbrev pub after_answer : Answer → Transcript Debugger → Transcript Debugger
after_answer a rest = after_text a.text (cond a.quits (over a.view) rest)

-- what is written for lines of commands, up to `quit`, by what the free runs among them do
abbrev pub session : Debugger → List FreeRun → List (List ℕ) → Transcript Debugger
session d runs [] = over d
session d runs (line ∷ more) =
    after_answer (answered d runs line) (session (answered d runs line).view (answered d runs line).runs more)

-- what is due for the bytes of commands that come
abbrev pub due : Debugger → List FreeRun → List ℕ → Transcript Debugger
due d runs bytes = session d runs (lines bytes)

-- nothing is due behind a `quit`
abbrev pub due_behind : Bool → Debugger → List FreeRun → List ℕ → Transcript Debugger
due_behind false d runs bytes = due d runs bytes
due_behind true d runs bytes = over d

-- Whole lines are answered, by the free runs among them; and whatever runs follow, this is what is due then.
abbrev pub AnswersBatch : Option (List ℕ) → Option (List ℕ) → List ℕ → ℕ → Debugger → Bool → Debugger → Type 0
AnswersBatch old new bytes used d quits after =
    (runs : List FreeRun) × ((later : List FreeRun) → Answers old new bytes used (due d (runs ++ later))
    (due_behind quits after later))

-- Some calls were made, with free runs among them; and whatever runs follow, this is what is due then.
abbrev pub AdvancesTo : Moment → Moment → Debugger → Debugger → Type 0
AdvancesTo before after d later_d =
    (runs : List FreeRun) × ((later : List FreeRun) → Advance before after (due d (runs ++ later)) (due later_d later))
