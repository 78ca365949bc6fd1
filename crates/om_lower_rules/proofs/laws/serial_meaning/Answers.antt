use Rattle.om_lower_rules.proofs.Behaving.{serial_meaning}
use Rattle.om_lower_rules.proofs.laws.serial_meaning.Goals as goal

pub returns : goal.returns
returns c = serial_meaning c.function_bodies.ensures c.formats_are_numbered.ensures
