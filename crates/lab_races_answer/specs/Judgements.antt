-- What is said of the history that a session leaves.
use Rattle.std.specs.Prelude.{◌≡◌, ℕ, Bool, true, false, Option, None, Some, List, [], ◌∷◌, option_copied}
use Rattle.om_book.specs.Books.{BookView, machine_of}
use Rattle.om_shell.specs.declared.shell.Options.{Options}
use Rattle.om_shell.specs.Files.{ReadsAll}
use Rattle.om_undo.specs.Machines.{MachineView}
use Rattle.lab_draw.specs.Pages.{Leaves}
use Rattle.lab_races.specs.declared.made.Race.{Race}
use Rattle.lab_races_history.specs.Histories.{AreRacesOf}
use Rattle.lab_races_answer.specs.declared.judged.Judged.{Judged}
use Rattle.lab_races_answer.specs.declared.judged.Judged.TheVariants.{Told, Refused}

abbrev pub has_any : List Race → Bool
has_any [] = false
has_any (r ∷ rs) = true

-- there is a race in a history, or there is none
abbrev pub SaysOf : MachineView → Bool → Type 0
SaysOf m has_races = (races : List Race) × AreRacesOf m races × (has_races ≡ has_any races)

abbrev pub IsJudgedBy : MachineView → Judged → Type 0
IsJudgedBy m (Told report has_races turned_down) = SaysOf m has_races
IsJudgedBy m Refused = ⊥

abbrev pub IsJudged : Option BookView → Judged → Type 0
IsJudged (Some book) judged = IsJudgedBy (machine_of book) judged
IsJudged None (Told report has_races turned_down) = ⊥
IsJudged None Refused = Unit {0}

-- what comes of a session over all that a reader had: it wrote a text and left a book, and this is said of that
pub record IsJudgement (left_before left_after : Option (List ℕ)) (workers : ℕ) (given : Option (List ℕ))
    (verdict : Judged) : Type 0 where
  pub input : List ℕ
  pub reads : ReadsAll left_before left_after input
  pub text : List ℕ
  pub status : ℕ
  pub book : Option BookView
  pub leaves : Leaves input text workers given status book
  pub judged : IsJudged book verdict

-- this comes of a session with these options over all that a reader had
abbrev pub Judges : (left_before left_after : Option (List ℕ)) → Options → Judged → Type 0
Judges left_before left_after options verdict =
    IsJudgement left_before left_after options.workers (option_copied options.source) verdict
