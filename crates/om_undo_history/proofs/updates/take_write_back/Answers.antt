use Rattle.std.proofs.Common.{◌∙◌, sym, ap}
use Rattle.om_foot.specs.declared.footprint.Mode.TheVariants as mode
use Rattle.om_state.specs.State.{state_before}
use Rattle.om_memory.specs.Memories.{state_of}
use Rattle.om_undo_history.proofs.Changes.{cut_at}
use Rattle.om_undo_history.proofs.updates.take_write_back.Goals as goal

pub returns-in-Cut-clause-state : goal.returns-in-Cut-clause-state
returns-in-Cut-clause-state c =
    c.cut.ensures.state
    ∙ cut_at c.args.object.now c.in-Cut.count (state_of c.args.store.now)
    ∙ ap (λ u. state_before (record { object = c.args.object.now; mode = mode.Write }) u (state_of c.args.store.now))
    (sym c.in-Cut.is)
