use Rattle.std.proofs.Common.{◌≡◌, length}
use Rattle.om_undo_history.specs.Rows.{entries_in, AreRising}
use Rattle.om_undo_history.proofs.by_serial.drop_gone.Given as goal

-- the records are those at the start, and the serials rise
abbrev pub invariant-loop-row : goal.invariant-loop-row
invariant-loop-row l = (entries_in l.rows.items ≡ entries_in l.initial.rows.items) × AreRising 0 l.rows.items

abbrev pub decreases-loop-row : goal.decreases-loop-row
decreases-loop-row l = length l.rows.items
