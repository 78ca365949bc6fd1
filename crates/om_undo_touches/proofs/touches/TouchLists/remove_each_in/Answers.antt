use Rattle.om_undo_touches.specs.Touches.{has_touch}
use Rattle.om_undo_touches.proofs.PartLemmas.{less_none, less_cells_next}
use Rattle.om_undo_touches.proofs.touches.TouchLists.remove_each_in.Goals as goal

pub loop-cells-init : goal.loop-cells-init
loop-cells-init c = less_none c.args.serial (has_touch c.args.self.now)

pub loop-cells-preserved : goal.loop-cells-preserved
loop-cells-preserved c =
    less_cells_next c.args.all.now c.loop-cells.cells-index c.cells-item.result c.args.serial
    (has_touch c.args.self.now) (has_touch c.loop-cells.self) (has_touch c.remove_in.new.self)
    c.loop-cells-test.true c.cells-item.is c.loop-cells.invariant c.remove_in.ensures
