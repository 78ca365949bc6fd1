use Rattle.om_undo_history.proofs.RunLaws.{least}
use Rattle.om_undo_history.proofs.laws.least.Goals as goal

pub returns : goal.returns
returns c = least
