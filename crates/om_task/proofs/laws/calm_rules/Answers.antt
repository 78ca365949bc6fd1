use Rattle.om_task.proofs.Calm.{calm_rules}
use Rattle.om_task.proofs.laws.calm_rules.Goals as goal

pub returns : goal.returns
returns c = calm_rules
