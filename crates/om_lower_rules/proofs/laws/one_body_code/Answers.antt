use Rattle.om_lower_rules.proofs.OneCode.{one_body_code}
use Rattle.om_lower_rules.proofs.laws.one_body_code.Goals as goal

pub returns : goal.returns
returns c = one_body_code
