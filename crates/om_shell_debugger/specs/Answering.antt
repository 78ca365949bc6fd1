-- What a line is answered, by whether it asks for a free run: matter of proofs, for whoever goes through lines.
use Rattle.std.specs.Prelude.{◌≡◌, ℕ, false, List, [], ◌∷◌, Option, None, Some, refl}
use Rattle.std.proofs.Common.{◌∙◌, ap, sym}
use Rattle.om_shell_commands.specs.Commands.{request_of}
use Rattle.om_shell_commands.specs.declared.command.Command.{Command}
use Rattle.om_shell_commands.specs.declared.command.Command.TheVariants as command
use Rattle.om_shell_commands.specs.declared.command.Request.{Request}
use Rattle.om_shell_commands.specs.declared.command.Request.TheVariants as request
use Rattle.om_shell_debugger.specs.declared.debugger.Debugger.{Debugger}
use Rattle.om_shell_debugger.specs.Freed.{FreeRun, no_run, free_said}
use Rattle.om_shell_debugger.specs.Views.{Answer, answer_by, answer_to, answered, is_quit, obeyed, rounds_asked}

no_rounds : (rounds : ℕ) → rounds_asked request.Nothing ≡ Some rounds → ⊥
no_rounds rounds e = cc

rounds_none : (rounds : ℕ) → Some rounds ≡ None → ⊥
rounds_none rounds e = cc

-- a free run, and those that are to come
abbrev free_answer : Debugger → FreeRun → List FreeRun → Answer
free_answer d run later = record {
  text = (free_said run d.book).text;
  view = record d { book = (free_said run d.book).book };
  quits = false;
  runs = later;
}

free_command : (d : Debugger) (c : Command) (rounds : ℕ) (run : FreeRun) (later : List FreeRun)
    → rounds_asked (request.Command c) ≡ Some rounds
    → answer_by d (run ∷ later) (request.Command c) ≡ free_answer d run later
free_command d (command.Step w) rounds run later e = absurd (no_rounds rounds e)
free_command d (command.Start w t) rounds run later e = absurd (no_rounds rounds e)
free_command d (command.Undo w) rounds run later e = absurd (no_rounds rounds e)
free_command d (command.Next w) rounds run later e = absurd (no_rounds rounds e)
free_command d (command.Back w) rounds run later e = absurd (no_rounds rounds e)
free_command d (command.Print v) rounds run later e = absurd (no_rounds rounds e)
free_command d (command.PrintLocal w v) rounds run later e = absurd (no_rounds rounds e)
free_command d (command.Where w) rounds run later e = absurd (no_rounds rounds e)
free_command d command.History rounds run later e = absurd (no_rounds rounds e)
free_command d (command.Events w) rounds run later e = absurd (no_rounds rounds e)
free_command d command.Output rounds run later e = absurd (no_rounds rounds e)
free_command d command.Tasks rounds run later e = absurd (no_rounds rounds e)
free_command d (command.Break l) rounds run later e = absurd (no_rounds rounds e)
free_command d (command.Watch v) rounds run later e = absurd (no_rounds rounds e)
free_command d (command.Delete l) rounds run later e = absurd (no_rounds rounds e)
free_command d (command.Run k) rounds run later e = absurd (no_rounds rounds e)
free_command d (command.Free k) rounds run later e = refl
free_command d (command.Roll n) rounds run later e = absurd (no_rounds rounds e)
free_command d command.Quit rounds run later e = absurd (no_rounds rounds e)

free_request : (d : Debugger) (asked : Request) (rounds : ℕ) (run : FreeRun) (later : List FreeRun)
    → rounds_asked asked ≡ Some rounds
    → answer_by d (run ∷ later) asked ≡ free_answer d run later
free_request d request.Nothing rounds run later e = absurd (no_rounds rounds e)
free_request d (request.Command c) rounds run later e = free_command d c rounds run later e
free_request d (request.Fault fault) rounds run later e = absurd (no_rounds rounds e)

abbrev plain_answer : Debugger → Request → List FreeRun → Answer
plain_answer d asked runs = record {
  text = (answer_to d no_run asked).text;
  view = (answer_to d no_run asked).view;
  quits = is_quit asked;
  runs = runs;
}

plain_command : (d : Debugger) (c : Command) (runs : List FreeRun) → rounds_asked (request.Command c) ≡ None
    → answer_by d runs (request.Command c) ≡ plain_answer d (request.Command c) runs
plain_command d (command.Step w) runs e = refl
plain_command d (command.Start w t) runs e = refl
plain_command d (command.Undo w) runs e = refl
plain_command d (command.Next w) runs e = refl
plain_command d (command.Back w) runs e = refl
plain_command d (command.Print v) runs e = refl
plain_command d (command.PrintLocal w v) runs e = refl
plain_command d (command.Where w) runs e = refl
plain_command d command.History runs e = refl
plain_command d (command.Events w) runs e = refl
plain_command d command.Output runs e = refl
plain_command d command.Tasks runs e = refl
plain_command d (command.Break l) runs e = refl
plain_command d (command.Watch v) runs e = refl
plain_command d (command.Delete l) runs e = refl
plain_command d (command.Run k) runs e = refl
plain_command d (command.Free k) runs e = absurd (rounds_none k e)
plain_command d (command.Roll n) runs e = refl
plain_command d command.Quit runs e = refl

plain_request : (d : Debugger) (asked : Request) (runs : List FreeRun) → rounds_asked asked ≡ None
    → answer_by d runs asked ≡ plain_answer d asked runs
plain_request d request.Nothing runs e = refl
plain_request d (request.Command c) runs e = plain_command d c runs e
plain_request d (request.Fault fault) runs e = refl

-- a line that asks for a free run
pub answered_free : (d : Debugger) (line : List ℕ) (asked : Request) (rounds : ℕ) (run : FreeRun) (later : List FreeRun)
    → asked ≡ request_of d.book.start.workers line → rounds_asked asked ≡ Some rounds
    → answered d (run ∷ later) line ≡ free_answer d run later
unfolding answered
answered_free d line asked rounds run later e free = ap (λ a. answer_by d (run ∷ later) a) (sym e)
    ∙ free_request d asked rounds run later free

-- any other line
pub answered_plain : (d : Debugger) (line : List ℕ) (asked : Request) (runs : List FreeRun)
    → asked ≡ request_of d.book.start.workers line → rounds_asked asked ≡ None
    → answered d runs line ≡ plain_answer d asked runs
unfolding answered
answered_plain d line asked runs e plain = ap (λ a. answer_by d runs a) (sym e) ∙ plain_request d asked runs plain

-- so where none is asked for, the free runs that are to come change nothing
pub answered_same : (d : Debugger) (line : List ℕ) (runs : List FreeRun)
    → rounds_asked (request_of d.book.start.workers line) ≡ None
    → answered d runs line ≡ record {
      text = (answered d [] line).text;
      view = (answered d [] line).view;
      quits = (answered d [] line).quits;
      runs = runs;
    }
answered_same d line runs plain =
    let asked = request_of d.book.start.workers line in
    answered_plain d line asked runs refl plain
    ∙ sym (ap (λ (a : Answer). record { text = a.text; view = a.view; quits = a.quits; runs = runs })
    (answered_plain d line asked [] refl plain))

pub none_behind : (d : Debugger) (line : List ℕ) → rounds_asked (request_of d.book.start.workers line) ≡ None
    → (answered d [] line).runs ≡ []
none_behind d line plain = ap (λ (a : Answer). a.runs)
    (answered_plain d line (request_of d.book.start.workers line) [] refl plain)
