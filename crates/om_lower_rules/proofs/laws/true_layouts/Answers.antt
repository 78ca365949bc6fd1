use Rattle.om_lower_rules.proofs.TrueLayouts.{true_layouts}
use Rattle.om_lower_rules.proofs.laws.true_layouts.Goals as goal

pub returns : goal.returns
returns c = true_layouts
