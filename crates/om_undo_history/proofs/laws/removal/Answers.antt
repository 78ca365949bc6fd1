use Rattle.om_undo_history.proofs.Removal.{taken_out}
use Rattle.om_undo_history.proofs.laws.removal.Goals as goal

pub returns : goal.returns
returns c = taken_out
