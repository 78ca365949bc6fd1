use Rattle.std.proofs.Common.{sym, subst, take, ◌+◌}
use Rattle.om_undo_touches.specs.Touches.{has_touch, meets_at, meets}
use Rattle.om_foot.specs.Firsts.{sooner, IsFirst}
use Rattle.om_undo_touches.specs.Searches.{sooner-first, IsFirst-same, meets_next}
use Rattle.om_undo_touches.proofs.touches.TouchLists.first_of.Goals as goal

pub loop-access-preserved : goal.loop-access-preserved
loop-access-preserved c =
    let touch = has_touch c.args.self.now in
    let footprint = c.args.accesses.now in
    let i = c.loop-access.access-index in
    let a = c.access-item.result in
    subst (IsFirst (meets touch (take (i + 1) footprint)) c.args.serial) (sym c.sooner-first.ensures)
    (IsFirst-same _ (meets touch (take (i + 1) footprint)) c.args.serial
    (sooner c.loop-access.first c.first_at.result)
    (λ s. sym (meets_next touch footprint i a s c.loop-access-test.true c.access-item.is))
    (sooner-first (meets touch (take i footprint)) (meets_at (touch a.object) a.mode) c.args.serial
    c.loop-access.first c.first_at.result c.loop-access.invariant c.first_at.ensures))
