use Rattle.om_scope_rules.proofs.Resolvable.{unbroken_trees_resolve}
use Rattle.om_scope_rules.proofs.laws.unbroken_trees_resolve.Goals as goal

pub returns : goal.returns
returns c = unbroken_trees_resolve
