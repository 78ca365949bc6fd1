-- What is said of a session that was run.
use Rattle.std.proofs.Common.{◌≡◌, subst, ℕ, Option, List}
use Rattle.om_book.specs.Books.{BookView}
use Rattle.om_shell.specs.Files.{ReadsAll}
use Rattle.lab_draw.specs.Pages.{Leaves}
use Rattle.lab_races_answer.specs.declared.judged.Judged.{Judged}
use Rattle.lab_races_answer.specs.Judgements.{IsJudged, IsJudgement}

-- what is said of a session that was run over a reader's bytes
pub judgement_of : (left_before left_after : Option (List ℕ)) (workers : ℕ) (given : Option (List ℕ))
    (input seen text : List ℕ) (status : ℕ) (book : Option BookView) (verdict : Judged)
    → ReadsAll left_before left_after input → seen ≡ input → Leaves seen text workers given status book
    → IsJudged book verdict → IsJudgement left_before left_after workers given verdict
judgement_of left_before left_after workers given input seen text status book verdict reads same leaves judged = record {
  input = input;
  reads = reads;
  text = text;
  status = status;
  book = book;
  leaves = subst (λ l. Leaves l text workers given status book) same leaves;
  judged = judged;
}
