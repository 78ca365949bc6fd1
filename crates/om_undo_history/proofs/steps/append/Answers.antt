use Rattle.std.proofs.Common.{◌∙◌, ap, sym, subst}
use Rattle.om_state.specs.State.{taken_back}
use Rattle.om_memory.specs.Memories.{state_of, pasts_of}
use Rattle.om_undo_history.specs.declared.records.UndoRecord.{UndoRecord}
use Rattle.om_undo_history.specs.Fills.{full, before}
use Rattle.om_undo_history.specs.Takes.{CanLeave}
use Rattle.om_undo_history.proofs.Holding.{made_can, made_state, made_pasts}
use Rattle.om_undo_history.proofs.steps.append.Goals as goal

pub take_back-requires : goal.take_back-requires
take_back-requires c =
    subst (CanLeave c.make.new.store) (sym (c.in-Err.ensures.returned ∙ c.in_ok-made.ensures.made))
    (made_can c.args.store.now c.make.new.store c.args.entry c.args.change c.requires.can c.in_ok-made.ensures.state
    c.in_ok-made.ensures.pasts c.in_ok-made.ensures.room)

pub returns-in-Err-clause-same_state_on_error : goal.returns-in-Err-clause-same_state_on_error
returns-in-Err-clause-same_state_on_error c =
    c.take_back.ensures.state
    ∙ ap (λ (k : UndoRecord). taken_back k.footprint (full (pasts_of c.make.new.store) k).back
    (state_of c.make.new.store)) (c.in-Err.ensures.returned ∙ c.in_ok-made.ensures.made)
    ∙ made_state c.args.store.now c.make.new.store c.args.entry c.args.change c.requires.can
    c.in_ok-made.ensures.state c.in_ok-made.ensures.pasts

pub returns-in-Err-clause-same_pasts_on_error : goal.returns-in-Err-clause-same_pasts_on_error
returns-in-Err-clause-same_pasts_on_error c =
    c.take_back.ensures.pasts
    ∙ ap (before (pasts_of c.make.new.store)) (c.in-Err.ensures.returned ∙ c.in_ok-made.ensures.made)
    ∙ made_pasts c.args.store.now c.make.new.store c.args.entry c.args.change c.requires.can
    c.in_ok-made.ensures.state c.in_ok-made.ensures.pasts
