use Rattle.om_lower_laws.proofs.Locks.{locks_differ}
use Rattle.om_lower_laws.proofs.laws.locks_differ.Goals as goal

pub returns : goal.returns
returns c = locks_differ
