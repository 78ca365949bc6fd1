-- What is answered for a source.
use Rattle.std.specs.Prelude.{◌≡◌, ℕ, zero, suc, List, [], ◌∷◌, ◌++◌, ◌==◌, ◌||◌, Bool, not, if◌then◌else◌, codes, decimal, length, Result, Ok, Err}
use Rattle.om_code.specs.declared.raw.Raw.{Raw}
use Rattle.om_lexer.specs.declared.fault.SourceFault.{SourceFault}
use Rattle.om_frontend.specs.Verdict.{IsVerdict}
use Rattle.lab_check.specs.Reports.{Reports}
use Rattle.lab_port.specs.declared.ported.Ported.{Ported}
use Rattle.lab_port.specs.Portings.{Ports}
use Rattle.lab_port.specs.Tallies.{change_count, warning_count}
use Rattle.lab_port.specs.Listings.{change_list, refusal_list}
use Rattle.lab_port_answer.specs.declared.answered.Answer.{Answer}

-- a number and a word, with an `s` unless there is one
abbrev pub counted : ℕ → List ℕ → List ℕ
counted count word = decimal count ++ codes " " ++ word ++ (if count == 1 then [] else 115 ∷ [])

abbrev pub changes_words : ℕ → ℕ → List ℕ
changes_words changes warnings = counted changes (codes "change") ++ codes ", " ++ counted warnings (codes "warning")

-- the last line of an answer
abbrev pub accepted_words : ℕ → ℕ → List ℕ
accepted_words changes warnings = changes_words changes warnings ++ codes "; the text is accepted\n"

abbrev pub refused_words : ℕ → ℕ → ℕ → List ℕ
refused_words changes warnings refusals =
    changes_words changes warnings ++ codes "; " ++ counted refusals (codes "token")
    ++ codes " without a form; the text is not accepted\n"

-- what is said of a text of which the port makes this again
abbrev pub left_words : Ported → List ℕ
left_words again =
    if change_count again == 0 then [] else codes "a rule has a place in the text still: port it once more\n"

-- the list for a source whose text is accepted: each change and each warning has its line
abbrev pub accepted_list : List ℕ → List ℕ → Ported → List ℕ
accepted_list file source ported =
    change_list file source ported ++ accepted_words (change_count ported) (warning_count ported)

-- the list for a source whose text is refused by this report: each change and each warning, each token without a form,
-- whether a rule has a place in the text still, and what `check` says of it
abbrev pub refused_list : List ℕ → List ℕ → Ported → Ported → List ℕ → List ℕ
refused_list file source ported again report =
    change_list file source ported ++ refusal_list file ported ++ left_words again ++ report
    ++ refused_words (change_count ported) (warning_count ported) (length ported.refusals.items)

-- The list of a refused text, of which the port makes this again.
pub record TellsRefused (file source : List ℕ) (ported : Ported) (report list : List ℕ) : Type 0 where
  pub again : Ported
  pub ports : Ports ported.rules.text.items again
  pub told : list ≡ refused_list file source ported again report

-- the list, by the status of the report on the text
abbrev pub Tells : List ℕ → List ℕ → Ported → List ℕ → ℕ → List ℕ → Type 0
Tells file source ported report zero list = list ≡ accepted_list file source ported
Tells file source ported report (suc more) list = TellsRefused file source ported report list

-- An accepted source is left as it is, with no change.
pub record IsKept (file source : List ℕ) (answer : Answer) : Type 0 where
  pub text : answer.text.items ≡ source
  pub listed : answer.list.items ≡ accepted_words 0 0
  pub warned : answer.warnings ≡ 0
  pub status : answer.status ≡ 0

-- The answer has the text that the port makes of a source, the verdict on that text, and its list.
pub record IsPorted (file source : List ℕ) (answer : Answer) : Type 0 where
  pub ported : Ported
  pub ports : Ports source ported
  pub text : answer.text.items ≡ ported.rules.text.items
  pub report : List ℕ
  pub checked : Reports file answer.text.items report answer.status
  pub listed : Tells file source ported report answer.status answer.list.items
  pub warned : answer.warnings ≡ warning_count ported

-- an accepted source is kept, and any other is ported
abbrev pub AnswersBy : List ℕ → List ℕ → Result Raw SourceFault → Answer → Type 0
AnswersBy file source (Ok program) answer = IsKept file source answer
AnswersBy file source (Err fault) answer = IsPorted file source answer

-- By the verdict on the source it is left as it is, or ported.
pub record Answers (file source : List ℕ) (answer : Answer) : Type 0 where
  pub verdict : Result Raw SourceFault
  pub judged : IsVerdict source verdict
  pub answers : AnswersBy file source verdict answer

-- the text is not accepted, or a change has a warning
abbrev pub is_held_back : Answer → Bool
is_held_back answer = not (answer.status == 0) || not (answer.warnings == 0)
