use Rattle.std.proofs.Common.{refl, ◌∙◌, ap}
use Rattle.std.specs.Prelude.{slice_get}
use Rattle.om_foot.specs.declared.serials.Serials.TheVariants.{None}
use Rattle.om_undo_touches.specs.Touches.{is_in}
use Rattle.om_undo_touches.specs.Workers.{kept-more}
use Rattle.om_undo_touches.proofs.own.OwnEntries.know.Goals as goal

pub grow-preserved : goal.grow-preserved
grow-preserved c w s =
    ap (λ ss. is_in (slice_get ss w) s) c.in_ok-push.ensures.items
    ∙ kept-more (λ o. is_in o s) c.grow.self.workers.items None refl w ∙ c.grow.invariant w s
