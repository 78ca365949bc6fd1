use Rattle.om_lower_emit.proofs.Loops.{ends_loop}
use Rattle.om_lower_emit.proofs.repeated.end_loop.Goals as goal

pub returns : goal.returns
returns c = λ names. ends_loop names _ _ _ _ _ c.in_ok-put_jump.ensures c.define.ensures
