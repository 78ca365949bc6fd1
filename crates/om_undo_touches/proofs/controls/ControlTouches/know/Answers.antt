use Rattle.std.proofs.Common.{◌∙◌, ap}
use Rattle.std.specs.Prelude.{slice_get}
use Rattle.om_undo_touches.specs.Touches.{has_in}
use Rattle.om_undo_touches.specs.Workers.{kept-more}
use Rattle.om_undo_touches.proofs.controls.ControlTouches.know.Goals as goal

pub grow-preserved : goal.grow-preserved
grow-preserved c w m s =
    ap (λ ts. has_in (slice_get ts w) m s) c.in_ok-push.ensures.items
    ∙ kept-more (λ o. has_in o m s) c.grow.self.workers.items c.new.result (c.new.ensures m s) w
    ∙ c.grow.invariant w m s
