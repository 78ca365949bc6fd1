use Rattle.om_lower_emit.specs.Going.{begins}
use Rattle.om_lower_emit.proofs.repeated.begin_if.Goals as goal

pub returns : goal.returns
returns c = begins _ _ _ _ _ c.in_ok-label.ensures c.in_ok-test.ensures
