use Rattle.std.proofs.Common.{true}
use Rattle.om_undo_touches.specs.Touches.{has_slot_touch}
use Rattle.om_undo_touches.proofs.PartLemmas.{set_cells_next, set_cells_part}
use Rattle.om_undo_touches.proofs.slots.SlotTouches.add_each.Goals as goal

pub loop-cells-preserved : goal.loop-cells-preserved
loop-cells-preserved c =
    set_cells_next true c.args.all.now c.loop-cells.cells-index c.cells-item.result c.args.serial
    (has_slot_touch c.args.self.now) (has_slot_touch c.loop-cells.self) (has_slot_touch c.add.new.self)
    c.loop-cells-test.true c.cells-item.is c.loop-cells.invariant c.in-Ok.ensures.added

pub returns-in-Err-clause-some_on_error : goal.returns-in-Err-clause-some_on_error
returns-in-Err-clause-some_on_error c =
    set_cells_part c.args.all.now c.loop-cells.cells-index c.args.serial
    (has_slot_touch c.args.self.now) (has_slot_touch c.loop-cells.self) (has_slot_touch c.add.new.self)
    c.loop-cells.invariant c.in-Err.ensures.unchanged_on_error
