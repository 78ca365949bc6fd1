use Rattle.om_scope_rules.proofs.Uses.{is_resolved}
use Rattle.om_scope_rules.proofs.laws.unbroken_trees_are_resolved.Goals as goal

pub returns : goal.returns
returns c = is_resolved
