use Rattle.om_lexer.specs.declared.fault.FaultCode.TheVariants as faults
use Rattle.om_scope_rules.proofs.Firsts.{among_refuses}
use Rattle.om_scope_rules.proofs.fault.loop_fault.Goals as goal

pub returns : goal.returns
returns g c = λ breaches checked. rw (c.fault_among.ensures, c.err.ensures.value)
    (among_refuses c.args.checked faults.LoopForm c.args.at breaches checked)
