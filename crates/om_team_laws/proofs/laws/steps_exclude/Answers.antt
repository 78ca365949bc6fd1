use Rattle.om_team_laws.proofs.Exclusion.{step_excludes}
use Rattle.om_team_laws.proofs.laws.steps_exclude.Goals as goal

pub returns : goal.returns
returns c = λ program workers s t l h is. step_excludes program workers s t l h is
