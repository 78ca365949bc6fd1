use Rattle.om_team_laws.proofs.Shared.{given_once}
use Rattle.om_team_laws.proofs.laws.given_once.Goals as goal

pub returns : goal.returns
returns c = given_once
