use Rattle.om_task.proofs.Shapes.{shaped_rules}
use Rattle.om_task.proofs.laws.shaped_rules.Goals as goal

pub returns : goal.returns
returns c = shaped_rules
