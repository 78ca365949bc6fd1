use Rattle.om_pragma.specs.Expressions.{IsClosed}
use Rattle.om_pragma.proofs.OneExpression.{one_expression}
use Rattle.om_pragma.proofs.laws.one_expression.Goals as goal

pub returns : goal.returns
returns c = one_expression IsClosed
