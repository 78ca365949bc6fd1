-- What `check` says of a source.
use Rattle.std.specs.Prelude.{◌≡◌, ℕ, zero, suc, List, ◌++◌}
use Rattle.lab_text.specs.declared.report.Report.{Report}
use Rattle.lab_check.specs.Reports.{Reports}
use Rattle.lab_port.specs.declared.ported.Ported.{Ported}
use Rattle.lab_port.specs.Portings.{Ports}
use Rattle.lab_port_kinds.specs.Kinds.{places_of, kinds_text}

-- Behind the report stands a line for each kind of place of the source: those of which the port makes a change, and
-- those that have no form.
pub record TellsKinds (source report text : List ℕ) : Type 0 where
  pub ported : Ported
  pub ports : Ports source ported
  pub told : text ≡ report ++ kinds_text (places_of source ported)

-- an accepted source has its report alone
abbrev pub TellsPlaces : List ℕ → List ℕ → ℕ → List ℕ → Type 0
TellsPlaces source report zero text = text ≡ report
TellsPlaces source report (suc more) text = TellsKinds source report text

-- The text begins with the report on the source, and has its status.
pub record Checks (file source : List ℕ) (checked : Report) : Type 0 where
  pub report : List ℕ
  pub reported : Reports file source report checked.status
  pub places : TellsPlaces source report checked.status checked.text.items
