use Rattle.om_lower_rules.proofs.CodeLevels.{code_is_level}
use Rattle.om_lower_rules.proofs.laws.code_is_level.Goals as goal

pub returns : goal.returns
returns c = code_is_level
