use Rattle.std.proofs.Common.{sym, subst, take, ◌+◌}
use Rattle.om_foot.specs.Cells.{cells_listed}
use Rattle.om_undo_touches.specs.Touches.{has_touch, meets}
use Rattle.om_foot.specs.Firsts.{IsFirst}
use Rattle.om_undo_touches.proofs.PartLemmas.{first_next}
use Rattle.om_undo_touches.proofs.touches.TouchLists.first_in_any.Goals as goal

pub loop-cells-preserved : goal.loop-cells-preserved
loop-cells-preserved c =
    let touch = has_touch c.args.self.now in
    let all = c.args.all.now in
    let i = c.loop-cells.cells-index in
    subst (IsFirst (meets touch (cells_listed (take (i + 1) all))) c.args.serial) (sym c.sooner-first.ensures)
    (first_next touch all i c.cells-item.result c.args.serial c.loop-cells.first c.first_in.result
    c.loop-cells-test.true c.cells-item.is c.loop-cells.invariant c.first_in.ensures)
