use Rattle.std.proofs.Common.{true, subst}
use Rattle.om_foot.specs.Cells.{cells_of}
use Rattle.om_undo_touches.specs.Lists.{on_ok, on_err}
use Rattle.om_undo_touches.specs.Touches.{has_slot_touch, IsSet}
use Rattle.om_undo_touches.proofs.CellLemmas.{cells_added, cells_same}
use Rattle.om_undo_touches.proofs.slots.SlotTouches.add.Goals as goal

pub returns-clause-added : goal.returns-clause-added
returns-clause-added c =
    let old = c.args.self.now in
    let new = c.add_of.new.self in
    on_ok c.add_of.result
    (λ added. subst (λ cells. IsSet true (cells_of cells) c.args.serial (has_slot_touch old) (has_slot_touch new))
    c.cells-cells.ensures (cells_added c.cells-cells.result c.args.serial old new added))
    c.add_of.ensures.added

pub returns-clause-unchanged_on_error : goal.returns-clause-unchanged_on_error
returns-clause-unchanged_on_error c =
    on_err c.add_of.result (cells_same c.args.serial c.args.self.now c.add_of.new.self) c.add_of.ensures.unchanged_on_error
