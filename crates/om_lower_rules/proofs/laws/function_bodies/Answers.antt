use Rattle.om_lower_rules.proofs.KnownBodies.{function_bodies}
use Rattle.om_lower_rules.proofs.laws.function_bodies.Goals as goal

pub returns : goal.returns
returns c = function_bodies
