use Rattle.om_team_laws.proofs.Singles.{runs_once}
use Rattle.om_team_laws.proofs.laws.singles_run_once.Goals as goal

pub returns : goal.returns
returns c = runs_once
