use Rattle.om_undo_touches.specs.Touches.{has_touch}
use Rattle.om_undo_touches.proofs.PartLemmas.{less_none, less_next}
use Rattle.om_undo_touches.proofs.touches.TouchLists.remove_each.Goals as goal

pub loop-access-init : goal.loop-access-init
loop-access-init c = less_none c.args.serial (has_touch c.args.self.now)

pub loop-access-preserved : goal.loop-access-preserved
loop-access-preserved c =
    less_next c.args.accesses.now c.loop-access.access-index c.access-item.result c.args.serial
    (has_touch c.args.self.now) (has_touch c.loop-access.self) (has_touch c.remove.new.self)
    c.loop-access-test.true c.access-item.is c.loop-access.invariant c.remove.ensures
