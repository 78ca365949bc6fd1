use Rattle.std.proofs.Common.{take}
use Rattle.om_foot.specs.Cells.{cells_listed}
use Rattle.om_undo_touches.specs.Touches.{has_touch, meets}
use Rattle.om_foot.specs.Firsts.{IsFirst}
use Rattle.om_undo_touches.proofs.touches.TouchLists.first_in_any.Given as goal

-- the first conflict with the cells so far
abbrev pub invariant-loop-cells : goal.invariant-loop-cells
invariant-loop-cells l = IsFirst (meets (has_touch l.self) (cells_listed (take l.cells-index l.all))) l.serial l.first
