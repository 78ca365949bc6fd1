use Rattle.std.proofs.Common.{◌∙◌, arith}
use Rattle.om_memory.specs.Memories.{state_of, pasts_of}
use Rattle.om_undo_history.proofs.TakingBack.{back_whole}
use Rattle.om_undo_history.proofs.updates.take_back_all.Goals as goal

pub take_back_first-requires-clause-can : goal.take_back_first-requires-clause-can
take_back_first-requires-clause-can c =
    (back_whole c.min-count.result c.args.footprint.now c.args.small.now.items (state_of c.args.store.now)
    (pasts_of c.args.store.now) (omega arith) c.requires.can).can

pub returns-clause-state : goal.returns-clause-state
returns-clause-state c = c.take_back_first.ensures.state
    ∙ (back_whole c.min-count.result c.args.footprint.now c.args.small.now.items (state_of c.args.store.now)
    (pasts_of c.args.store.now) (omega arith) c.requires.can).state

pub returns-clause-pasts : goal.returns-clause-pasts
returns-clause-pasts c = c.take_back_first.ensures.pasts
    ∙ (back_whole c.min-count.result c.args.footprint.now c.args.small.now.items (state_of c.args.store.now)
    (pasts_of c.args.store.now) (omega arith) c.requires.can).pasts
