use Rattle.om_task.specs.Rules.{rules_of, start_of}
use Rattle.om_team_laws.specs.Tasks.{IsOrderly}
use Rattle.om_team_laws.proofs.Replays.{rest_keeps}
use Rattle.om_team_laws.proofs.TaskCases.{start_orderly, step_goes_on}
use Rattle.om_team_laws.proofs.laws.runs_are_orderly.Goals as goal

pub returns : goal.returns
returns c = λ program workers ls s e.
    rest_keeps (rules_of program workers) IsOrderly (λ u v l h is. (step_goes_on program workers u v l h is).orderly) ls
    (start_of program workers) s (start_orderly program workers) e
