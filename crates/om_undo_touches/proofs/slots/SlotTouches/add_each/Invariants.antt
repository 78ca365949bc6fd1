-- the touches of the cells so far are added
use Rattle.std.proofs.Common.{take, true}
use Rattle.om_foot.specs.Cells.{cells_listed}
use Rattle.om_undo_touches.specs.Touches.{has_slot_touch, IsSet}
use Rattle.om_undo_touches.proofs.slots.SlotTouches.add_each.Given as goal

abbrev pub invariant-loop-cells : goal.invariant-loop-cells
invariant-loop-cells l =
    IsSet true (cells_listed (take l.cells-index l.all)) l.serial (has_slot_touch l.fn.self) (has_slot_touch l.self)
