use Rattle.om_lower_laws.proofs.Locks.{directives_have_locks}
use Rattle.om_lower_laws.proofs.laws.directives_have_locks.Goals as goal

pub returns : goal.returns
returns c = directives_have_locks
