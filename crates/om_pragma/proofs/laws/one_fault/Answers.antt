use Rattle.om_pragma.proofs.Refused.{one_fault, fault_in_no_directive}
use Rattle.om_pragma.proofs.laws.one_fault.Goals as goal

pub returns-clause-only : goal.returns-clause-only
returns-clause-only c = one_fault

pub returns-clause-in_no_directive : goal.returns-clause-in_no_directive
returns-clause-in_no_directive c = fault_in_no_directive
