use Rattle.om_lower_rules.proofs.FlowInts.{ints_stay_behind}
use Rattle.om_lower_rules.proofs.Ints.{ints_stay}
use Rattle.om_lower_rules.proofs.laws.ints_stay.Goals as goal

pub returns-clause-expression : goal.returns-clause-expression
returns-clause-expression c = ints_stay

pub returns-clause-statement : goal.returns-clause-statement
returns-clause-statement c = ints_stay_behind
