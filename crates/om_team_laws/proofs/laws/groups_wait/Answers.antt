use Rattle.om_team_laws.proofs.Awaiting.{no_task_left}
use Rattle.om_team_laws.proofs.laws.groups_wait.Goals as goal

pub returns : goal.returns
returns c = λ program workers s t l stack group runs choice there has is.
    no_task_left program workers l stack s t group runs choice there has is
