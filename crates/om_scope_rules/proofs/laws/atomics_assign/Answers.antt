use Rattle.om_scope_rules.proofs.AtomicsAssign.{unit_assigns}
use Rattle.om_scope_rules.proofs.laws.atomics_assign.Goals as goal

pub returns : goal.returns
returns c = unit_assigns
