use Rattle.om_lower_laws.proofs.Shares.{shared_stand_outside}
use Rattle.om_lower_laws.proofs.laws.shared_variables_stand_outside.Goals as goal

pub returns : goal.returns
returns c = shared_stand_outside
