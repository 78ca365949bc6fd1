use Rattle.om_lower_rules.proofs.CodeLevels.{body_levels}
use Rattle.om_lower_rules.proofs.laws.body_is_level.Goals as goal

pub returns : goal.returns
returns c = body_levels
