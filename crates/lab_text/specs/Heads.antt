-- How a report on a source begins.
use Rattle.std.specs.Prelude.{◌≡◌, ℕ, List, ◌++◌, codes, decimal, take}
use Rattle.om_lexer.specs.declared.fault.SourceFault.{SourceFault}
use Rattle.om_lexer.specs.Faults.{number_of}
use Rattle.lab_text.specs.declared.report.Report.{Report}
use Rattle.om_shell.specs.Places.{line_after, column_after}

-- FILE:LINE:COLUMN of a byte of the source
abbrev pub place_text : List ℕ → List ℕ → ℕ → List ℕ
place_text file source at =
    let front = take at source in
    file ++ codes ":" ++ decimal (line_after front) ++ codes ":" ++ decimal (column_after front)

-- FILE: accepted
abbrev pub accepted_head : List ℕ → List ℕ
accepted_head file = file ++ codes ": accepted\n"

-- FILE:LINE:COLUMN: error: S3:
abbrev pub refused_head : List ℕ → List ℕ → SourceFault → List ℕ
refused_head file source fault =
    place_text file source fault.at ++ codes ": error: S" ++ decimal (number_of fault.code) ++ codes ": "

pub record BeginsWith (front text : List ℕ) : Type 0 where
  pub rest : List ℕ
  pub is : text ≡ front ++ rest

-- the text of a report is a head, and this behind it
abbrev pub HasText : List ℕ → List ℕ → Report → Type 0
HasText head rest report = report.text.items ≡ head ++ rest
