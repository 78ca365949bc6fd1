use Rattle.om_lower_rules.proofs.TreeCode.{whole_has_code}
use Rattle.om_lower_rules.proofs.laws.whole_has_code.Goals as goal

pub returns : goal.returns
returns c = whole_has_code
