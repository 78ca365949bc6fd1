use Rattle.om_team_laws.proofs.TaskCases.{step_goes_on}
use Rattle.om_team_laws.proofs.laws.tasks_go_on.Goals as goal

pub returns : goal.returns
returns c = λ program workers ls s t l name e is.
    (step_goes_on program workers s t l (c.runs_are_orderly.ensures program workers ls s e) is).goes name
