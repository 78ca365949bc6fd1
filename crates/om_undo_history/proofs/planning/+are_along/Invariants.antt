use Rattle.std.proofs.Common.{length}
use Rattle.om_undo_history.proofs.planning.+are_along.Given as goal

abbrev pub decreases-are_along : goal.decreases-are_along
decreases-are_along l = length l.all.now
