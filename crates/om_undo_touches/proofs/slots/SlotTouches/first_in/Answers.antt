use Rattle.std.proofs.Common.{◌≡◌, ◌<◌, subst, arith}
use Rattle.om_foot.specs.Cells.{cells_of}
use Rattle.om_undo_touches.specs.Slots.{has_span, spans_of}
use Rattle.om_undo_touches.specs.Touches.{meets, has_slot_touch}
use Rattle.om_foot.specs.Firsts.{IsFirst}
use Rattle.om_undo_touches.specs.Searches.{IsFirst-same}
use Rattle.om_undo_touches.proofs.CellLemmas.{meets_first}
use Rattle.om_undo_touches.proofs.slots.SlotTouches.first_in.Goals as goal

pub returns : goal.returns
returns c =
    let slots = c.args.self.now in
    let cells = c.cells-cells.result in
    let some : 0 < cells.count = omega (arith, c.if-cells-eq0.false) in
    subst (λ x. IsFirst (meets (has_slot_touch slots) (cells_of x)) c.args.serial c.first_of.result) c.cells-cells.ensures
    (IsFirst-same (has_span (spans_of slots cells.slot) 0) (meets (has_slot_touch slots) (cells_of cells)) c.args.serial
    c.first_of.result (λ s. meets_first slots cells s some) c.first_of.ensures)
