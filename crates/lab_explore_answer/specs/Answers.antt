-- What is answered for a source: the exploration of its program, by whether that is bad.
use Rattle.std.specs.Prelude.{◌≡◌, ℕ, List, Some}
use Rattle.om_code.specs.declared.raw.Raw.{Raw}
use Rattle.om_frontend.specs.Verdict.{IsProgramOf}
use Rattle.lab_explore_closed.specs.declared.found.Explored.{Explored}
use Rattle.lab_explore_closed.specs.Explored.{IsExplored}
use Rattle.lab_explore_answer.specs.declared.asked.Answer.{Answer}
use Rattle.lab_explore_answer.specs.declared.asked.Question.{Question}
use Rattle.lab_explore_answer.specs.Findings.{finding_of, ran_out_by}
use Rattle.lab_explore_answer.specs.Scripts.{IsScript}

-- the program of the source was explored, and the finding is of what was found
pub record Answers (question : Question) (source : List ℕ) (a : Answer) : Type 0 where
  pub program : Raw
  pub explored : Explored
  pub is_of : IsProgramOf source program
  pub is_explored : IsExplored program question.workers question.limits explored
  pub finding : a.finding ≡ finding_of question.subject explored
  -- where a script is asked for, it is of one of these ends or races
  pub script : (number : ℕ) → question.script ≡ Some number
      → IsScript question.subject number explored a.text.items
  pub ran_out : a.ran_out ≡ ran_out_by explored.verdict
