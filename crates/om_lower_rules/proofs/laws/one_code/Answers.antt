use Rattle.om_lower_rules.proofs.OneCode.{one_code}
use Rattle.om_lower_rules.proofs.laws.one_code.Goals as goal

pub returns : goal.returns
returns c = one_code
