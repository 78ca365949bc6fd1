use Rattle.om_lower_emit.proofs.Leaves.{emits_two}
use Rattle.om_lower_emit.proofs.alone.barrier.Goals as goal

pub returns : goal.returns
returns c = λ names. emits_two names _ _ _ _ _ _ c.in_ok-put.ensures c.in_ok-put-2.ensures
