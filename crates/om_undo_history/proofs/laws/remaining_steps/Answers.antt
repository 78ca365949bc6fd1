use Rattle.om_undo_history.proofs.Remaining.{remaining}
use Rattle.om_undo_history.proofs.laws.remaining_steps.Goals as goal

pub returns : goal.returns
returns c = remaining
