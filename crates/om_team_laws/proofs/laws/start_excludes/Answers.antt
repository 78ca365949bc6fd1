use Rattle.om_team_laws.proofs.Exclusion.{start_excludes}
use Rattle.om_team_laws.proofs.laws.start_excludes.Goals as goal

pub returns : goal.returns
returns c = λ program workers. start_excludes program workers
