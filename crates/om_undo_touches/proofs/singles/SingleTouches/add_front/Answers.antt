use Rattle.std.proofs.Common.{true, refl, suc, take, [], ◌∷◌, ◌∙◌}
use Rattle.om_undo_touches.specs.Accesses.{control_write}
use Rattle.om_undo_touches.specs.Touches.{has_single_touch}
use Rattle.om_undo_touches.specs.Lists.{on_ok, on_err, set-append, set_none}
use Rattle.om_undo_touches.specs.Controls.{lists-control, same-controls, with_controls}
use Rattle.om_undo_touches.proofs.PartLemmas.{on_any}
use Rattle.om_undo_touches.proofs.singles.SingleTouches.add_front.Goals as goal

pub returns-in_err-add-clause-some_on_error : goal.returns-in_err-add-clause-some_on_error
returns-in_err-add-clause-some_on_error c =
    let old = c.args.self.now in
    on_any c.from_residual.result (
      0,
      λ o m s. same-controls old c.add.new.self c.in_err-add.ensures.unchanged_on_error o m s
          ∙ set_none true c.args.serial (has_single_touch old) o m s,
    )

pub returns-clause-added : goal.returns-clause-added
returns-clause-added c =
    let old = c.args.self.now in
    let mid = with_controls old c.add.new.self in
    let control = control_write c.args.worker in
    on_ok c.add_each.result
    (set-append true (control ∷ []) c.args.others.now c.args.serial (has_single_touch old) (has_single_touch mid)
    (has_single_touch c.add_each.new.self)
    (lists-control true old c.add.new.self control c.args.worker c.args.serial refl c.in_ok-add.ensures.added))
    c.add_each.ensures.added

pub returns-clause-some_on_error : goal.returns-clause-some_on_error
returns-clause-some_on_error c =
    let old = c.args.self.now in
    let mid = with_controls old c.add.new.self in
    let control = control_write c.args.worker in
    on_err c.add_each.result
    (λ some. (
      suc some.0,
      set-append true (control ∷ []) (take some.0 c.args.others.now) c.args.serial (has_single_touch old)
          (has_single_touch mid) (has_single_touch c.add_each.new.self)
          (lists-control true old c.add.new.self control c.args.worker c.args.serial refl c.in_ok-add.ensures.added)
          some.1,
    ))
    c.add_each.ensures.some_on_error
