use Rattle.std.proofs.Common.{false, ◌∙◌, ap, subst}
use Rattle.om_undo_touches.specs.Touches.{control_of, ControlsWithout}
use Rattle.om_undo_touches.specs.Controls.{lists-control, lists-object}
use Rattle.om_undo_touches.proofs.singles.SingleTouches.remove.Goals as goal

pub returns-in-Some : goal.returns-in-Some
returns-in-Some c =
    lists-control false c.args.self.now c.remove.new.self c.args.access.now c.in-Some.worker c.args.serial
    (c.in-Some.ensures ∙ ap control_of (c.get.ensures ∙ c.object.ensures))
    (subst (λ m. ControlsWithout c.in-Some.worker m c.args.serial c.args.self.now.controls c.remove.new.self)
    c.mode.ensures c.remove.ensures)

pub returns-in-None : goal.returns-in-None
returns-in-None c =
    lists-object false c.args.self.now c.remove-in-None.new.self c.args.access.now c.args.serial
    (c.in-None.ensures ∙ ap control_of (c.get.ensures ∙ c.object.ensures)) c.remove-in-None.ensures
