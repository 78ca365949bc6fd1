use Rattle.om_lower_rules.proofs.RowsCode.{value_says, effect_says, statement_says}
use Rattle.om_lower_rules.proofs.TreeCode.{rows_have_code}
use Rattle.om_lower_rules.proofs.laws.rows_have_code.Goals as goal

pub returns-clause-tree : goal.returns-clause-tree
returns-clause-tree c = rows_have_code

pub returns-clause-value : goal.returns-clause-value
returns-clause-value c = λ at l e p q r. value_says at l e p q r

pub returns-clause-effect : goal.returns-clause-effect
returns-clause-effect c = λ at l e p q r. effect_says at l e p q r

pub returns-clause-statement : goal.returns-clause-statement
returns-clause-statement c = λ at n s j p q r. statement_says at s n j p q r
