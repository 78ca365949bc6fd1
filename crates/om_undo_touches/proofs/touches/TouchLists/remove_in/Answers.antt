use Rattle.om_foot.specs.Cells.{cells_of}
use Rattle.om_undo_touches.specs.Touches.{has_single_touch, has_slot_touch}
use Rattle.om_undo_touches.proofs.PartLemmas.{less_either}
use Rattle.om_undo_touches.proofs.touches.TouchLists.remove_in.Goals as goal

pub returns : goal.returns
returns c =
    let lists = c.args.self.now in
    less_either (cells_of c.args.cells.now) c.args.serial (has_single_touch lists.singles)
    (has_single_touch c.remove_in.new.self) (has_slot_touch lists.slots) (has_slot_touch c.remove.new.self)
    c.remove_in.ensures c.remove.ensures
