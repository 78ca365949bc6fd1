use Rattle.om_lower_rules.proofs.Valid.{code_is_valid, code_faults}
use Rattle.om_lower_rules.proofs.laws.code_is_valid.Goals as goal

pub returns-clause-valid : goal.returns-clause-valid
returns-clause-valid c = code_is_valid

pub returns-clause-faults : goal.returns-clause-faults
returns-clause-faults c = code_faults
