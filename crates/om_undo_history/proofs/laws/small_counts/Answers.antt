use Rattle.om_undo_history.proofs.RunLaws.{small_counts}
use Rattle.om_undo_history.proofs.laws.small_counts.Goals as goal

pub returns : goal.returns
returns c = small_counts
