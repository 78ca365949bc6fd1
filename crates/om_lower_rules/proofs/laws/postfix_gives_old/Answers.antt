use Rattle.om_lower_rules.proofs.Postfix.{postfix_gives_old, element_gives_old}
use Rattle.om_lower_rules.proofs.laws.postfix_gives_old.Goals as goal

pub returns-clause-variable : goal.returns-clause-variable
returns-clause-variable c = postfix_gives_old

pub returns-clause-element : goal.returns-clause-element
returns-clause-element c = element_gives_old
