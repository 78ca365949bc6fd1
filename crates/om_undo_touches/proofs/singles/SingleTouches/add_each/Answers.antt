use Rattle.std.proofs.Common.{true, ap, ◌∙◌}
use Rattle.om_undo_touches.specs.Touches.{has_single_touch}
use Rattle.om_undo_touches.specs.Lists.{set_next}
use Rattle.om_undo_touches.proofs.singles.SingleTouches.add_each.Goals as goal

pub loop-access-preserved : goal.loop-access-preserved
loop-access-preserved c =
    set_next true c.args.footprint.now c.loop-access.access-index c.access-item.result
    c.args.serial (has_single_touch c.args.self.now) (has_single_touch c.loop-access.self) (has_single_touch c.add.new.self)
    c.loop-access-test.true c.access-item.is c.loop-access.invariant c.in-Ok.ensures.added

pub returns-in-Err-clause-some_on_error : goal.returns-in-Err-clause-some_on_error
returns-in-Err-clause-some_on_error c =
    (c.loop-access.access-index, λ o m s. c.in-Err.ensures.unchanged_on_error o m s ∙ c.loop-access.invariant o m s)
