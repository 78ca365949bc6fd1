use Rattle.om_scope_rules.proofs.ExpressionsWhole.{whole_expression}
use Rattle.om_scope_rules.proofs.laws.unbroken_expressions_are_whole.Goals as goal

pub returns : goal.returns
returns c = whole_expression
