-- With an answer here, the prover refuses a mistake in this function without a search for further ones.
use Rattle.std.proofs.Common.{◌∙◌, ap, sym, refl}
use Rattle.om_memory.specs.Memories.{is_trailed}
use Rattle.om_undo_history.proofs.Marks.{added_by_mark}
use Rattle.om_undo_history.proofs.updates.take_back.Goals as goal

pub returns-in-Read-clause-kept : goal.returns-in-Read-clause-kept
returns-in-Read-clause-kept c = λ q. refl

pub take_addition_back-requires-clause-no_control : goal.take_addition_back-requires-clause-no_control
take_addition_back-requires-clause-no_control c = ap is_trailed (c.get-object.ensures ∙ c.object.ensures)
    ∙ added_by_mark c.args.access.now.mode _ (is_trailed c.args.access.now.object)
    (sym c.in-Add.is ∙ c.mode.ensures) c.requires.marked
