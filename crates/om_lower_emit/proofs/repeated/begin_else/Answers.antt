use Rattle.om_lower_emit.proofs.Loops.{begins_else}
use Rattle.om_lower_emit.proofs.repeated.begin_else.Goals as goal

pub returns : goal.returns
returns c = λ names. begins_else names _ _ _ _ _ _ _ c.requires c.in_ok-label.ensures c.in_ok-put_jump.ensures
    c.define.ensures
