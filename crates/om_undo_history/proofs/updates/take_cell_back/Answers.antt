use Rattle.std.proofs.Common.{◌∙◌}
use Rattle.om_state.specs.declared.step.Update.TheVariants as update
use Rattle.om_state.specs.declared.value.Val.TheVariants as value
use Rattle.om_memory.specs.Memories.{state_of, pasts_of}
use Rattle.om_undo_history.proofs.TakingBack.{one_back}
use Rattle.om_undo_history.proofs.updates.take_cell_back.Goals as goal

pub returns-clause-state : goal.returns-clause-state
returns-clause-state c = c.take_back.ensures.state
    ∙ (one_back c.args.footprint.now c.in-Some.access.now c.in-Some.field-0-1.now (update.Put (value.Cell c.args.cell))
    (state_of c.args.store.now) (pasts_of c.args.store.now) c.in-Some.ensures.cases.0 c.requires.can).state
