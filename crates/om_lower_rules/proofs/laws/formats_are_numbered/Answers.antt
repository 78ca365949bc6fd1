use Rattle.om_lower_rules.proofs.KnownBodies.{formats_are_numbered}
use Rattle.om_lower_rules.proofs.laws.formats_are_numbered.Goals as goal

pub returns : goal.returns
returns c = formats_are_numbered
