use Rattle.om_lower_emit.proofs.Loops.{begins_loop}
use Rattle.om_lower_emit.proofs.repeated.begin_while.Goals as goal

pub returns : goal.returns
returns c = begins_loop _ _ _ _ _ _ _ _ c.in_ok-again.ensures c.in_ok-over.ensures c.define.ensures c.in_ok-test.ensures
