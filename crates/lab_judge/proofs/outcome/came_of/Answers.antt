use Rattle.std.proofs.Common.{◌≡◌, IfOk, None, subst}
use Rattle.lab_judge.specs.Bad.{wanted_by}
use Rattle.lab_judge.specs.Texts.{text_in}
use Rattle.lab_judge.proofs.outcome.came_of.Goals as goal

pub returns-clause-printed : goal.returns-clause-printed
returns-clause-printed c =
    subst (λ m. IfOk c.came_at-came.result (λ came. text_in came.output ≡ wanted_by None m)) c.machine.ensures.left
    c.came_at-came.ensures.printed
