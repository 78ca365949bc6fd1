use Rattle.om_team_laws.proofs.Waiting.{finds_all}
use Rattle.om_team_laws.proofs.laws.barriers_wait.Goals as goal

pub returns : goal.returns
returns c = λ program workers s t l stack runs choice d is. finds_all program workers l stack s runs choice d t is
