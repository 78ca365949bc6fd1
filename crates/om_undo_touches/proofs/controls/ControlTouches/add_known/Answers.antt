use Rattle.std.proofs.Common.{true, ◌∙◌, ap, sym, Some, arith}
use Rattle.std.proofs.lemmas.Option.{slice_get-get_or}
use Rattle.om_undo_touches.specs.Touches.{has_in}
use Rattle.om_undo_touches.specs.Lists.{on_ok, on_err}
use Rattle.om_undo_touches.specs.Workers.{kept-same}
use Rattle.om_undo_touches.specs.Controls.{control-set}
use Rattle.om_undo_touches.proofs.controls.ControlTouches.add_known.Goals as goal

pub index_mut-requires : goal.index_mut-requires
index_mut-requires c = omega (arith, c.requires, c.args.self.now.workers.ok)

pub returns-clause-added : goal.returns-clause-added
returns-clause-added c =
    let ts = c.args.self.now.workers.items in
    let at = slice_get-get_or ts c.args.worker _ c.requires ∙ ap Some (sym c.index_mut.ensures.value) in
    on_ok c.add.result
    (control-set true ts c.args.worker c.args.mode c.args.serial c.index_mut.result.now c.add.new.self at)
    c.add.ensures.added

pub returns-clause-unchanged_on_error : goal.returns-clause-unchanged_on_error
returns-clause-unchanged_on_error c =
    let ts = c.args.self.now.workers.items in
    let at = slice_get-get_or ts c.args.worker _ c.requires ∙ ap Some (sym c.index_mut.ensures.value) in
    on_err c.add.result
    (λ same w m s. kept-same (λ o. has_in o m s) ts c.args.worker c.index_mut.result.now c.add.new.self at (same m s) w)
    c.add.ensures.unchanged_on_error
