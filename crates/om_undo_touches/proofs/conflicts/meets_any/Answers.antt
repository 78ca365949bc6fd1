use Rattle.std.proofs.Common.{rules}
use Rattle.om_undo_touches.proofs.ConflictLemmas.{met_append}
use Rattle.om_undo_touches.proofs.conflicts.meets_any.Goals as goal

pub returns-then-meets_one_of : goal.returns-then-meets_one_of
returns-then-meets_one_of c = search (rules, met_append)

pub returns-then-meets_cells : goal.returns-then-meets_cells
returns-then-meets_cells c = search (rules, met_append)

pub returns-else-meets_cells : goal.returns-else-meets_cells
returns-else-meets_cells c = search (rules, met_append)
