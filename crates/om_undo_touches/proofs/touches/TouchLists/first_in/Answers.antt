use Rattle.std.proofs.Common.{sym, subst}
use Rattle.om_foot.specs.Cells.{cells_of}
use Rattle.om_undo_touches.specs.Touches.{has_touch, has_single_touch, has_slot_touch, meets}
use Rattle.om_foot.specs.Firsts.{IsFirst}
use Rattle.om_undo_touches.proofs.PartLemmas.{first_either}
use Rattle.om_undo_touches.proofs.touches.TouchLists.first_in.Goals as goal

pub returns : goal.returns
returns c =
    let lists = c.args.self.now in
    let footprint = cells_of c.args.cells.now in
    subst (IsFirst (meets (has_touch lists) footprint) c.args.serial) (sym c.sooner.ensures)
    (first_either (has_single_touch lists.singles) (has_slot_touch lists.slots) footprint c.args.serial
    c.first_in.result c.first_in-2.result c.first_in.ensures c.first_in-2.ensures)
