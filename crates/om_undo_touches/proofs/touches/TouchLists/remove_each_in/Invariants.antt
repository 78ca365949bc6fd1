use Rattle.std.proofs.Common.{take}
use Rattle.om_foot.specs.Cells.{cells_listed}
use Rattle.om_undo_touches.specs.Touches.{has_touch, LosesOfEntry}
use Rattle.om_undo_touches.proofs.touches.TouchLists.remove_each_in.Given as goal

-- the touches of the cells so far are taken out
abbrev pub invariant-loop-cells : goal.invariant-loop-cells
invariant-loop-cells l = LosesOfEntry (cells_listed (take l.cells-index l.all)) l.serial (has_touch l.fn.self) (has_touch l.self)
