-- What is done for a source that is read.
use Rattle.std.specs.Prelude.{◌≡◌, ◌≢◌, ◌⊎◌, ℕ, List, [], Option, Result}
use Rattle.std.specs.Io.KnownBytes.{Consumes, Appends}
use Rattle.std.specs.Str.Lines.{lines}
use Rattle.om_lexer.specs.declared.fault.SourceFault.{SourceFault}
use Rattle.om_code.specs.declared.raw.Raw.{Raw}
use Rattle.om_book.specs.Books.{BookView}
use Rattle.om_shell_debugger.specs.declared.debugger.Debugger.{Debugger}
use Rattle.om_shell_debugger.specs.Freed.{FreeRun}
use Rattle.om_shell.specs.declared.ended.ShellFault.{ShellFault}
use Rattle.om_shell.specs.declared.ended.ShellFault.TheVariants.{Read}
use Rattle.om_shell.specs.Ends.{status_of}
use Rattle.om_shell.specs.Progress.{Moment, AppendsPart, BreaksOff, IsDone}
use Rattle.om_shell.specs.Script.{book_of, transcript_of}
use Rattle.om_shell.specs.Transcript.{Transcript}
use Rattle.om_frontend.specs.Verdict.{IsVerdict}

-- what is due for the bytes behind a source
abbrev pub due_for : Result Raw SourceFault → ℕ → List FreeRun → List ℕ → List ℕ → Transcript Debugger
due_for verdict workers runs source bytes = transcript_of verdict workers runs source (lines bytes)

-- all that was due is done, and this is the book that it leaves
pub record DoneWith (before after : Moment) (due : List ℕ → Transcript Debugger) (book : Option BookView) : Type 0
  where
    pub view : Option Debugger
    pub done : IsDone before after due view
    pub book_is : book ≡ book_of view

-- by a verdict on the source, all that was due is done
pub record Serves (before after : Moment) (workers : ℕ) (source : List ℕ) (status : ℕ) (book : Option BookView) : Type
    0 where
  pub verdict : Result Raw SourceFault
  pub judged : IsVerdict source verdict
  pub status_is : status ≡ status_of verdict
  pub runs : List FreeRun
  pub with_book : DoneWith before after (due_for verdict workers runs source) book

-- by a verdict on the source, a part of what was due is done
pub record ServesPart (before after : Moment) (workers : ℕ) (source : List ℕ) (fault : ShellFault) : Type 0 where
  pub verdict : Result Raw SourceFault
  pub judged : IsVerdict source verdict
  pub runs : List FreeRun
  pub part : BreaksOff before after (due_for verdict workers runs source) fault

-- no read failed, and nothing was taken or written
pub record IsUntouched (before after : Moment) (fault : ShellFault) : Type 0 where
  pub consumes : Consumes before.left after.left []
  pub appends : Appends before.held after.held []
  pub no_read : fault ≢ Read

abbrev pub BreaksOffServing : Moment → Moment → ℕ → List ℕ → ShellFault → Type 0
BreaksOffServing before after workers source fault =
    IsUntouched before after fault ⊎ ServesPart before after workers source fault

-- a source that no command follows
pub record ServesAlone (held_before held_after : Option (List ℕ)) (workers : ℕ) (source : List ℕ) (status : ℕ)
    (book : Option BookView) : Type 0 where
  pub verdict : Result Raw SourceFault
  pub judged : IsVerdict source verdict
  pub status_is : status ≡ status_of verdict
  pub appends : Appends held_before held_after (transcript_of verdict workers [] source []).text
  pub book_is : book ≡ book_of (transcript_of verdict workers [] source []).view

pub record ServesAlonePart (held_before held_after : Option (List ℕ)) (workers : ℕ) (source : List ℕ) : Type 0 where
  pub verdict : Result Raw SourceFault
  pub judged : IsVerdict source verdict
  pub part : AppendsPart held_before held_after (transcript_of verdict workers [] source []).text

pub record BreaksOffAlone (held_before held_after : Option (List ℕ)) (workers : ℕ) (source : List ℕ)
    (fault : ShellFault) : Type 0 where
  pub no_read : fault ≢ Read
  pub part : Appends held_before held_after [] ⊎ ServesAlonePart held_before held_after workers source
