-- What a report on a source says of it.
use Rattle.std.specs.Prelude.{◌≡◌, ℕ, List, Result, Ok, Err}
use Rattle.om_code.specs.declared.raw.Raw.{Raw}
use Rattle.om_lexer.specs.declared.fault.SourceFault.{SourceFault}
use Rattle.om_shell.specs.Ends.{status_of}
use Rattle.om_frontend.specs.Verdict.{IsVerdict}
use Rattle.lab_text.specs.declared.report.Report.{Report}
use Rattle.lab_text.specs.Heads.{BeginsWith, accepted_head, refused_head}

-- how the report begins
abbrev pub head_of : List ℕ → List ℕ → Result Raw SourceFault → List ℕ
head_of file source (Ok program) = accepted_head file
head_of file source (Err fault) = refused_head file source fault

-- a report begins with a head
abbrev pub HasHead : List ℕ → Report → Type 0
HasHead head report = BeginsWith head report.text.items

-- By a verdict on the source, the text says that it is accepted, or why it is refused and where.
pub record Reports (file source text : List ℕ) (status : ℕ) : Type 0 where
  pub verdict : Result Raw SourceFault
  pub judged : IsVerdict source verdict
  pub status_is : status ≡ status_of verdict
  pub begins : BeginsWith (head_of file source verdict) text
