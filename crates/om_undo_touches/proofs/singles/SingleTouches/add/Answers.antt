use Rattle.std.proofs.Common.{true, ◌∙◌, ap, subst}
use Rattle.om_undo_touches.specs.Touches.{control_of, ControlsWith}
use Rattle.om_undo_touches.specs.Lists.{on_ok, on_err}
use Rattle.om_undo_touches.specs.Controls.{lists-control, lists-object, same-controls, same-objects}
use Rattle.om_undo_touches.proofs.singles.SingleTouches.add.Goals as goal

pub returns-in-Some-clause-added : goal.returns-in-Some-clause-added
returns-in-Some-clause-added c =
    on_ok c.add.result
    (λ added. lists-control true c.args.self.now c.add.new.self c.args.access.now c.in-Some.worker c.args.serial
    (c.in-Some.ensures ∙ ap control_of (c.get.ensures ∙ c.object.ensures))
    (subst (λ m. ControlsWith c.in-Some.worker m c.args.serial c.args.self.now.controls c.add.new.self) c.mode.ensures
    added))
    c.add.ensures.added

pub returns-in-Some-clause-unchanged_on_error : goal.returns-in-Some-clause-unchanged_on_error
returns-in-Some-clause-unchanged_on_error c =
    on_err c.add.result (same-controls c.args.self.now c.add.new.self) c.add.ensures.unchanged_on_error

pub returns-in-None-clause-added : goal.returns-in-None-clause-added
returns-in-None-clause-added c =
    on_ok c.add-in-None.result
    (lists-object true c.args.self.now c.add-in-None.new.self c.args.access.now c.args.serial
    (c.in-None.ensures ∙ ap control_of (c.get.ensures ∙ c.object.ensures)))
    c.add-in-None.ensures.added

pub returns-in-None-clause-unchanged_on_error : goal.returns-in-None-clause-unchanged_on_error
returns-in-None-clause-unchanged_on_error c =
    on_err c.add-in-None.result (same-objects c.args.self.now c.add-in-None.new.self) c.add-in-None.ensures.unchanged_on_error
