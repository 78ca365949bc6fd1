use Rattle.om_team_laws.proofs.Awaiting.{no_child_left}
use Rattle.om_team_laws.proofs.laws.taskwaits_wait.Goals as goal

pub returns : goal.returns
returns c = λ program workers s t l stack runs choice there is.
    no_child_left program workers l stack s t runs choice there is
