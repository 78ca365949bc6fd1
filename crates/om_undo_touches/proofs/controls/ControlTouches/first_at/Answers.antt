use Rattle.std.proofs.Common.{◌∙◌, sym, ap, subst}
use Rattle.std.specs.Prelude.{slice_get}
use Rattle.om_undo_touches.specs.Touches.{has_in, has_control_touch, meets_at}
use Rattle.om_foot.specs.Firsts.{IsFirst}
use Rattle.om_undo_touches.specs.Searches.{meets_at_none}
use Rattle.om_undo_touches.proofs.controls.ControlTouches.first_at.Goals as goal

pub returns-in-Some : goal.returns-in-Some
returns-in-Some c =
    subst (λ o. IsFirst (meets_at (λ m s. has_in o m s) c.args.mode) c.args.serial c.first_conflict.result)
    (c.in-Some.ensures ∙ ap (λ ts. slice_get ts c.args.worker) c.deref.ensures.value) c.first_conflict.ensures

pub returns-in-None : goal.returns-in-None
returns-in-None c s above =
    meets_at_none (has_control_touch c.args.self.now c.args.worker) c.args.mode s
    (λ m. ap (λ o. has_in o m s) (sym (c.in-None.ensures ∙ ap (λ ts. slice_get ts c.args.worker) c.deref.ensures.value)))
