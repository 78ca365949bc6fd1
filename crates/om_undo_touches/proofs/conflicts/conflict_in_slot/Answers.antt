use Rattle.std.proofs.Common.{rules}
use Rattle.om_undo_touches.proofs.ConflictLemmas.{cells_next}
use Rattle.om_undo_touches.proofs.conflicts.conflict_in_slot.Goals as goal

pub loop-index-preserved : goal.loop-index-preserved
loop-index-preserved c = search (rules, cells_next)
