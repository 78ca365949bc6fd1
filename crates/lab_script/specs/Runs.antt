-- What a run of the debugger over a source and commands writes, and the book that it leaves.
use Rattle.std.specs.Prelude.{◌≡◌, ℕ, List, Option, Some}
use Rattle.om_state.specs.declared.step.Entry.{Entry}
use Rattle.om_book.specs.Books.{BookView, machine_of}
use Rattle.om_shell.specs.Script.{IsScript, book_of}
use Rattle.om_shell.specs.Transcript.{Transcript}
use Rattle.om_shell_debugger.specs.declared.debugger.Debugger.{Debugger}
use Rattle.lab_script.specs.declared.run.Heard.{Heard}
use Rattle.lab_script.specs.declared.run.Session.{Session}

-- the entries that stand in a book
abbrev pub entries_in : BookView → List Entry
entries_in b = (machine_of b).history.entries

-- a script of the input has this text, and leaves this book: none where the source is refused
pub record Leaves (workers : ℕ) (given : Option (List ℕ)) (input text : List ℕ) (book : Option BookView) : Type 0 where
  pub transcript : Transcript Debugger
  pub is_script : IsScript workers given input transcript
  pub writes : text ≡ transcript.text
  pub leaves : book ≡ book_of transcript.view

-- over a source that is handed in, these commands write this text and leave this book
abbrev pub IsRun : ℕ → List ℕ → List ℕ → List ℕ → Option BookView → Type 0
IsRun workers source commands text book = Leaves workers (Some source) commands text book

-- over the source of a session, its commands wrote what was heard and left this book
abbrev pub Hears : ℕ → Session → Heard → Type 0
Hears workers session heard =
    IsRun workers session.bytes.source.now session.bytes.commands.now heard.ran.text.items heard.ran.book
