use Rattle.om_lower_emit.proofs.Loops.{begins_do}
use Rattle.om_lower_emit.proofs.repeated.begin_do.Goals as goal

pub returns : goal.returns
returns c = begins_do _ _ _ _ c.in_ok-labels.ensures c.define.ensures
