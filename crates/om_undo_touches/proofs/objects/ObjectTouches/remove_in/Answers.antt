use Rattle.om_foot.specs.Cells.{cells_of}
use Rattle.om_undo_touches.specs.Touches.{has_object_touch}
use Rattle.om_undo_touches.proofs.CellLemmas.{untouched_less, forgotten_less}
use Rattle.om_undo_touches.proofs.objects.ObjectTouches.remove_in.Goals as goal

pub returns-then-may_touch : goal.returns-then-may_touch
returns-then-may_touch c =
    forgotten_less (cells_of c.args.cells.now) c.args.serial (has_object_touch c.args.self.now)
    (has_object_touch c.forget.new.self) c.forget.ensures

pub returns-else-may_touch : goal.returns-else-may_touch
returns-else-may_touch c =
    untouched_less (has_object_touch c.args.self.now) c.args.cells.now c.args.serial (c.may_touch.ensures c.if-may_touch.false)
