use Rattle.om_lower_laws.proofs.SharedSlots.{shared_have_slots}
use Rattle.om_lower_laws.proofs.laws.shared_variables_have_slots.Goals as goal

pub returns : goal.returns
returns c = shared_have_slots
