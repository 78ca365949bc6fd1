use Rattle.om_undo_history.proofs.Exchange.{exchanged}
use Rattle.om_undo_history.proofs.laws.commutation.Goals as goal

pub returns : goal.returns
returns c = exchanged
