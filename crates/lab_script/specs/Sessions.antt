-- What is answered of a session: its steps as commands, or the steps that a roll would take.
use Rattle.std.specs.Prelude.{◌≡◌, ℕ, IfSome, List, map, Option, None, Some, option_copied}
use Rattle.om_state.specs.declared.step.Entry.{Entry}
use Rattle.om_book.specs.Books.{BookView, machine_of}
use Rattle.om_shell.specs.declared.source.SessionBytes.{SessionBytes}
use Rattle.om_shell.specs.declared.shell.Options.{Options}
use Rattle.om_shell.specs.Script.{source_of}
use Rattle.lab_text.specs.Commands.{script_text}
use Rattle.lab_script.specs.declared.run.Script.{Script}
use Rattle.lab_script.specs.declared.run.Script.TheVariants.{Steps, Refused}
use Rattle.lab_script.specs.declared.steps.Steps as made
use Rattle.lab_script.specs.Cones.{IsConeOf}
use Rattle.lab_script.specs.Runs.{Leaves, entries_in}
use Rattle.lab_script.specs.Steps.{unnumbered}

-- commands over a source lead to the same history but for serials
pub record LeadsTo (workers : ℕ) (source commands : List ℕ) (entries : List Entry) : Type 0 where
  pub text : List ℕ
  pub book : BookView
  pub leaves : Leaves workers (Some source) commands text (Some book)
  pub same : map unnumbered (entries_in book) ≡ map unnumbered entries

-- over a source, the commands of these steps lead to their entries, but for the serials
abbrev pub LeadBack : ℕ → List ℕ → made.Steps → Type 0
LeadBack workers source steps = LeadsTo workers source steps.text.items steps.entries.items

-- The session left a book. The lines are the commands for the steps that stand in it, and they lead there again.
pub record AreSteps (workers : ℕ) (given : Option (List ℕ)) (input lines : List ℕ) : Type 0 where
  pub text : List ℕ
  pub book : BookView
  pub leaves : Leaves workers given input text (Some book)
  pub commands : lines ≡ script_text (entries_in book)
  pub again : LeadsTo workers (source_of given input) lines (entries_in book)

-- the session's source is refused by this line
abbrev pub IsRefusal : ℕ → Option (List ℕ) → List ℕ → List ℕ → Type 0
IsRefusal workers given input line = Leaves workers given input line None

abbrev pub IsScriptFor : ℕ → Option (List ℕ) → List ℕ → Script → Type 0
IsScriptFor workers given input (Steps lines turned_down) = AreSteps workers given input lines.items
IsScriptFor workers given input (Refused line) = IsRefusal workers given input line.items

-- the script is that of a session whose source and commands are these
abbrev pub IsScriptOver : ℕ → SessionBytes → Script → Type 0
IsScriptOver workers session script = IsScriptFor workers (Some session.source.now) session.commands.now script

-- where it is known which bytes a reader had, this is what is answered of the session in them: steps or a refusal
abbrev pub IsScriptIn : Option (List ℕ) → Options → Script → Type 0
IsScriptIn bytes options script =
    IfSome bytes (λ input. IsScriptFor options.workers (option_copied options.source) input script)

-- The session left a book. The lines have the steps that the roll of a serial would take out of it.
pub record AreOfCone (workers : ℕ) (given : Option (List ℕ)) (input : List ℕ) (serial : ℕ) (lines : List ℕ) : Type 0
  where
    pub text : List ℕ
    pub book : BookView
    pub leaves : Leaves workers given input text (Some book)
    pub cone : IsConeOf (machine_of book) serial lines

abbrev pub IsConeFor : ℕ → Option (List ℕ) → List ℕ → ℕ → Script → Type 0
IsConeFor workers given input serial (Steps lines turned_down) = AreOfCone workers given input serial lines.items
IsConeFor workers given input serial (Refused line) = IsRefusal workers given input line.items

-- this is answered of a serial in a session with this source and these commands: its cone or a refusal
abbrev pub IsConeOver : ℕ → SessionBytes → ℕ → Script → Type 0
IsConeOver workers session serial script =
    IsConeFor workers (Some session.source.now) session.commands.now serial script

-- where it is known which bytes a reader had, this is answered of a serial in their session: its cone or a refusal
abbrev pub IsConeIn : Option (List ℕ) → Options → ℕ → Script → Type 0
IsConeIn bytes options serial script =
    IfSome bytes (λ input. IsConeFor options.workers (option_copied options.source) input serial script)
