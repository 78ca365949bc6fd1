use Rattle.om_task.specs.Rules.{rules_of, start_of}
use Rattle.om_team_laws.specs.Works.{IsSharedOut}
use Rattle.om_team_laws.proofs.Replays.{rest_keeps}
use Rattle.om_team_laws.proofs.Shared.{start_shared, step_shared}
use Rattle.om_team_laws.proofs.laws.runs_share_out.Goals as goal

pub returns : goal.returns
returns c = λ program workers ls s e.
    rest_keeps (rules_of program workers) IsSharedOut (step_shared program workers) ls (start_of program workers) s
    (start_shared program workers) e
