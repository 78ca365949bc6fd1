use Rattle.std.proofs.Common.{length}
use Rattle.om_undo_history.proofs.further.+take_back_cells.Given as goal

abbrev pub decreases-take_back_cells : goal.decreases-take_back_cells
decreases-take_back_cells l = length l.all.now
