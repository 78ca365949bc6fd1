-- A run over bytes, and a session over all that a reader has.
use Rattle.std.proofs.Common.{◌≡◌, ℕ, List, [], ◌++◌, Option, None, Some, IfSome, refl, sym, ap, subst, ◌∙◌, append-nil, inl, inr}
use Rattle.std.specs.Io.KnownBytes.{Appends, Consumes}
use Rattle.std.specs.Str.Lines.{lines}
use Rattle.om_book.specs.Books.{BookView}
use Rattle.om_shell.specs.Ends.{RunsToEnd}
use Rattle.om_shell.specs.Files.{ReadsAll}
use Rattle.om_shell.specs.Progress.{moment_of}
use Rattle.om_shell.specs.Script.{IsScript, book_of, commands_of, source_of, script_by, transcript_of}
use Rattle.om_frontend.specs.Verdict.{IsVerdict}
use Rattle.om_state.specs.declared.step.Entry.{Entry}
use Rattle.lab_script.specs.declared.run.Script.{Script}
use Rattle.lab_script.specs.declared.run.Script.TheVariants.{Steps, Refused}
use Rattle.lab_script.specs.Runs.{Leaves, IsRun, entries_in}
use Rattle.lab_script.specs.Sessions.{LeadsTo, IsScriptFor, IsConeFor}

-- the run took all of its commands, or nothing that is left could change what it wrote
whole_of : (workers : ℕ) (source commands rest left : List ℕ) (status : ℕ) (book : Option BookView)
    → (p : RunsToEnd (moment_of (Some commands) (Some []) []) (moment_of (Some rest) (Some left) []) workers
    (Some source) status book)
    → script_by p.verdict workers p.runs (Some source) commands
    ≡ script_by p.verdict workers p.runs (Some source) p.taken
    → IsRun workers source commands left book
whole_of workers source commands rest left status book p same = record {
  transcript = script_by p.verdict workers p.runs (Some source) commands;
  is_script = record { verdict = p.verdict; judged = p.judged; runs = p.runs; is = refl };
  writes = p.appends ∙ ap (λ t. t.text) (sym same);
  leaves = p.book_is ∙ ap (λ t. book_of t.view) (sym same);
}

pub Run_of : (workers : ℕ) (source commands left : List ℕ) (after : Option (List ℕ)) (status : ℕ)
    (book : Option BookView)
    → RunsToEnd (moment_of (Some commands) (Some []) []) (moment_of after (Some left) []) workers (Some source) status
    book
    → IsRun workers source commands left book
Run_of workers source commands left None status book p = absurd p.consumes
Run_of workers source commands left (Some rest) status book p =
    let script = script_by p.verdict workers p.runs (Some source) in
    let all = ap script p.consumes in
    elim p.stops [
      | inl end ↦ whole_of workers source commands rest left status book p
          (all ∙ ap (λ l. script (p.taken ++ l)) end ∙ ap script (append-nil p.taken))
      | inr settled ↦ whole_of workers source commands rest left status book p
          (all ∙ settled.script rest)
    ]

-- what a run over a session's source and commands leaves, the session leaves
pub Session_of : (workers : ℕ) (given : Option (List ℕ)) (input source commands text : List ℕ)
    (book : Option BookView) → source ≡ source_of given input → lines commands ≡ commands_of given input
    → Leaves workers (Some source) commands text book → Leaves workers given input text book
Session_of workers given input source commands text book e c p = record {
  transcript = p.transcript;
  is_script = record {
    verdict = p.is_script.verdict;
    judged = subst (λ l. IsVerdict l p.is_script.verdict) e p.is_script.judged;
    runs = p.is_script.runs;
    is = p.is_script.is ∙ ap (λ l. transcript_of p.is_script.verdict workers p.is_script.runs l (lines commands)) e
        ∙ ap (λ l. transcript_of p.is_script.verdict workers p.is_script.runs (source_of given input) l) c;
  };
  writes = p.writes;
  leaves = p.leaves;
}

-- the commands lead where they led over the same source
Leads_over : (workers : ℕ) (source same commands : List ℕ) (entries : List Entry) → source ≡ same
    → LeadsTo workers source commands entries → LeadsTo workers same commands entries
Leads_over workers source same commands entries e p = subst (λ l. LeadsTo workers l commands entries) e p

-- what is answered over a session's source and commands is answered of the session
pub Script_of : (workers : ℕ) (given : Option (List ℕ)) (input source commands : List ℕ) (s : Script) → source
    ≡ source_of given input → lines commands ≡ commands_of given input
    → IsScriptFor workers (Some source) commands s → IsScriptFor workers given input s
Script_of workers given input source commands (Steps text turned_down) e c p = record {
  text = p.text;
  book = p.book;
  leaves = Session_of workers given input source commands p.text (Some p.book) e c p.leaves;
  commands = p.commands;
  again = Leads_over workers source (source_of given input) text.items (entries_in p.book) e p.again;
}
Script_of workers given input source commands (Refused line) e c p = Session_of workers given input source commands
    line.items None e c p

pub Cone_of : (workers : ℕ) (given : Option (List ℕ)) (input source commands : List ℕ) (serial : ℕ) (s : Script)
    → source ≡ source_of given input → lines commands ≡ commands_of given input
    → IsConeFor workers (Some source) commands serial s → IsConeFor workers given input serial s
Cone_of workers given input source commands serial (Steps text turned_down) e c p = record {
  text = p.text;
  book = p.book;
  leaves = Session_of workers given input source commands p.text (Some p.book) e c p.leaves;
  cone = p.cone;
}
Cone_of workers given input source commands serial (Refused line) e c p = Session_of workers given input source
    commands line.items None e c p

-- what is true of the bytes that were read to the end is true of all that the reader had
pub of_reader : (old new : Option (List ℕ)) (bytes : List ℕ) (P : List ℕ → Type 0) → ReadsAll old new bytes
    → P bytes → IfSome old P
of_reader None new bytes P e p = tt
of_reader (Some input) None bytes P e p = absurd e.consumes
of_reader (Some input) (Some rest) bytes P e p =
    let all = e.consumes ∙ ap (λ l. bytes ++ l) e.at_end ∙ append-nil bytes in
    subst P (sym all) p
