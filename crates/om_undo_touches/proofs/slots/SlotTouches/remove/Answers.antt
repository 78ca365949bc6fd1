use Rattle.std.proofs.Common.{subst}
use Rattle.om_foot.specs.Cells.{cells_of}
use Rattle.om_undo_touches.specs.Touches.{has_slot_touch, LosesOfEntry}
use Rattle.om_undo_touches.proofs.CellLemmas.{cells_less}
use Rattle.om_undo_touches.proofs.slots.SlotTouches.remove.Goals as goal

pub returns : goal.returns
returns c =
    let old = c.args.self.now in
    let new = c.remove_of.new.self in
    subst (λ cells. LosesOfEntry (cells_of cells) c.args.serial (has_slot_touch old) (has_slot_touch new))
    c.cells-cells.ensures (cells_less c.cells-cells.result c.args.serial old new c.remove_of.ensures)
