use Rattle.std.proofs.Common.{◌∙◌, ap, sym}
use Rattle.om_memory.specs.Memories.{is_trailed}
use Rattle.om_undo_history.proofs.Marks.{added_by_shape}
use Rattle.om_undo_history.proofs.updates.make.Goals as goal

pub make_addition-requires-clause-no_control : goal.make_addition-requires-clause-no_control
make_addition-requires-clause-no_control c = ap is_trailed (c.get-object.ensures ∙ c.object.ensures)
    ∙ added_by_shape c.args.access.now.mode c.args.update (is_trailed c.args.access.now.object)
    (sym c.in-Add.is ∙ c.mode.ensures) c.requires.shaped
