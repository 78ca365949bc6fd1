use Rattle.std.proofs.Common.{◌∙◌, ap, subst}
use Rattle.om_undo_touches.specs.Touches.{control_of, has_control_touch, has_single_by, meets_at}
use Rattle.om_foot.specs.Firsts.{IsFirst}
use Rattle.om_undo_touches.proofs.singles.SingleTouches.first_at.Goals as goal

pub returns-in-Some : goal.returns-in-Some
returns-in-Some c =
    let a = c.args.access.now in
    subst (λ o. IsFirst (meets_at (has_single_by c.args.self.now o a.object) a.mode) c.args.serial c.first_at.result)
    (c.in-Some.ensures ∙ ap control_of (c.get.ensures ∙ c.object.ensures))
    (subst (λ m. IsFirst (meets_at (has_control_touch c.args.self.now.controls c.in-Some.worker) m) c.args.serial
    c.first_at.result) c.mode.ensures c.first_at.ensures)

pub returns-in-None : goal.returns-in-None
returns-in-None c =
    let a = c.args.access.now in
    subst (λ o. IsFirst (meets_at (has_single_by c.args.self.now o a.object) a.mode) c.args.serial c.first_at-in-None.result)
    (c.in-None.ensures ∙ ap control_of (c.get.ensures ∙ c.object.ensures)) c.first_at-in-None.ensures
