use Rattle.om_lower_rules.proofs.OperatorsAgree.{binaries_agree, unaries_agree, compounds_agree, steps_agree}
use Rattle.om_lower_rules.proofs.laws.operators_agree.Goals as goal

pub returns-clause-binaries : goal.returns-clause-binaries
returns-clause-binaries c = binaries_agree

pub returns-clause-unaries : goal.returns-clause-unaries
returns-clause-unaries c = unaries_agree

pub returns-clause-compounds : goal.returns-clause-compounds
returns-clause-compounds c = compounds_agree

pub returns-clause-steps : goal.returns-clause-steps
returns-clause-steps c = steps_agree
