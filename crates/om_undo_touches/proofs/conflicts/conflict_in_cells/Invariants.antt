use Rattle.std.proofs.Common.{◌≡◌, drop}
use Rattle.om_foot.specs.Footprint.{conflict_of}
use Rattle.om_foot.specs.Cells.{cells_listed}
use Rattle.om_undo_touches.specs.Accesses.{accesses_of}
use Rattle.om_undo_touches.proofs.conflicts.conflict_in_cells.Given as goal

-- the answer for what is left is the answer for all
abbrev pub invariant-loop-cells : goal.invariant-loop-cells
invariant-loop-cells l = conflict_of (cells_listed (drop l.cells-index l.all)) (accesses_of l.others)
    ≡ conflict_of (cells_listed l.all) (accesses_of l.others)
