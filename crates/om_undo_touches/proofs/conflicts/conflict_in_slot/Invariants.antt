use Rattle.std.proofs.Common.{◌≡◌, ◌-◌}
use Rattle.om_foot.specs.Footprint.{conflict_of}
use Rattle.om_foot.specs.Cells.{cells_from, cells_of}
use Rattle.om_undo_touches.specs.Accesses.{accesses_of}
use Rattle.om_undo_touches.proofs.conflicts.conflict_in_slot.Given as goal

-- the answer for what is left is the answer for all
abbrev pub invariant-loop-index : goal.invariant-loop-index
invariant-loop-index l = conflict_of (cells_from l.cells.slot l.index (l.cells.count - l.index)) (accesses_of l.others)
    ≡ conflict_of (cells_of l.cells) (accesses_of l.others)
