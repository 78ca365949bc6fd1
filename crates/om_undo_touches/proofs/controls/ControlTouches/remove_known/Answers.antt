use Rattle.std.proofs.Common.{false, ◌∙◌, ap, sym, Some, arith}
use Rattle.std.proofs.lemmas.Option.{slice_get-get_or}
use Rattle.om_undo_touches.specs.Controls.{control-set}
use Rattle.om_undo_touches.proofs.controls.ControlTouches.remove_known.Goals as goal

pub index_mut-requires : goal.index_mut-requires
index_mut-requires c = omega (arith, c.requires, c.args.self.now.workers.ok)

pub returns : goal.returns
returns c =
    let ts = c.args.self.now.workers.items in
    control-set false ts c.args.worker c.args.mode c.args.serial c.index_mut.result.now c.remove.new.self
    (slice_get-get_or ts c.args.worker _ c.requires ∙ ap Some (sym c.index_mut.ensures.value)) c.remove.ensures
