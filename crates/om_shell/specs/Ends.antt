-- How a run ends.
use Rattle.std.specs.Prelude.{◌≡◌, ◌⊎◌, ℕ, false, List, [], ◌++◌, Option, None, Some, Result, Ok, Err}
use Rattle.std.specs.Io.KnownBytes.{Consumes, Appends, IsAtEnd}
use Rattle.om_lexer.specs.declared.fault.SourceFault.{SourceFault}
use Rattle.om_code.specs.declared.raw.Raw.{Raw}
use Rattle.om_book.specs.Books.{BookView}
use Rattle.om_shell_debugger.specs.declared.debugger.Debugger.{Debugger}
use Rattle.om_shell_debugger.specs.Freed.{FreeRun}
use Rattle.om_shell.specs.declared.ended.ShellFault.{ShellFault}
use Rattle.om_shell.specs.declared.ended.ShellFault.TheVariants.{Read}
use Rattle.om_shell.specs.Lines.{parts_of, has_mark}
use Rattle.om_shell.specs.Progress.{Moment, IsBeginning, AnswersWholeLines}
use Rattle.om_shell.specs.Script.{book_of, source_of, script_by, IsScript}
use Rattle.om_shell.specs.Transcript.{Transcript}
use Rattle.om_frontend.specs.Verdict.{IsVerdict}

-- the status of a run that came to its end: 0, or 1 for a source that is refused (`Outcomes.status_of` is that of
-- the program)
abbrev pub status_of : Result Raw SourceFault → ℕ
status_of (Ok program) = 0
status_of (Err fault) = 1

-- nothing that could follow changes the source or the script
pub record IsSettled (verdict : Result Raw SourceFault) (workers : ℕ) (runs : List FreeRun)
    (given : Option (List ℕ)) (taken : List ℕ) : Type 0 where
  pub source : (future : List ℕ) → source_of given (taken ++ future) ≡ source_of given taken
  pub script : (future : List ℕ) → script_by verdict workers runs given (taken ++ future) ≡ script_by verdict
      workers runs given taken

-- A run that came to its end: it wrote the script of the bytes that it took and nothing else, and left its book;
-- and the input has ended, or nothing that could follow changes the script
pub record RunsToEnd (before after : Moment) (workers : ℕ) (given : Option (List ℕ)) (status : ℕ)
    (book : Option BookView) : Type 0 where
  pub taken : List ℕ
  pub verdict : Result Raw SourceFault
  pub judged : IsVerdict (source_of given taken) verdict
  pub runs : List FreeRun
  pub consumes : Consumes before.left after.left taken
  pub appends : Appends before.held after.held (script_by verdict workers runs given taken).text
  pub book_is : book ≡ book_of (script_by verdict workers runs given taken).view
  pub status_is : status ≡ status_of verdict
  pub stops : IsAtEnd after.left ⊎ IsSettled verdict workers runs given taken

-- the text is a beginning of a script of the bytes that were taken
pub record BeginsScript (workers : ℕ) (given : Option (List ℕ)) (taken text : List ℕ) : Type 0 where
  pub verdict : Result Raw SourceFault
  pub judged : IsVerdict (source_of given taken) verdict
  pub runs : List FreeRun
  pub begins : IsBeginning text (script_by verdict workers runs given taken).text

-- the mark's line was not yet read
abbrev pub HasOpenSource : Option (List ℕ) → List ℕ → Type 0
HasOpenSource (Some source) taken = ⊥
HasOpenSource None taken = has_mark (parts_of taken) ≡ false

-- the text is the script of the whole lines that were taken, with the source that they have
pub record AnswersLines (workers : ℕ) (given : Option (List ℕ)) (taken text : List ℕ) : Type 0 where
  pub verdict : Result Raw SourceFault
  pub judged : IsVerdict (source_of given taken) verdict
  pub runs : List FreeRun
  pub answers : AnswersWholeLines taken text (script_by verdict workers runs given)

-- A run that a fault broke off: nothing was written, or a beginning of the script of the bytes that were taken. Where
-- a read failed, all whole lines before it were answered; none is while the source is still read.
pub record BreaksOffRun (before after : Moment) (workers : ℕ) (given : Option (List ℕ)) (fault : ShellFault) : Type 0
  where
    pub taken : List ℕ
    pub text : List ℕ
    pub consumes : Consumes before.left after.left taken
    pub appends : Appends before.held after.held text
    pub begins : (text ≡ []) ⊎ BeginsScript workers given taken text
    pub answered : fault ≡ Read → (HasOpenSource given taken × (text ≡ [])) ⊎ AnswersLines workers given taken text

-- what was written is a script of the whole input
pub record WritesScript (held_before held_after : Option (List ℕ)) (workers : ℕ) (given : Option (List ℕ))
    (input : List ℕ) : Type 0 where
  pub script : Transcript Debugger
  pub is_script : IsScript workers given input script
  pub appends : Appends held_before held_after script.text
