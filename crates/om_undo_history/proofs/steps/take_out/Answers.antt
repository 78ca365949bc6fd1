use Rattle.std.proofs.Common.{sym, subst}
use Rattle.om_undo_history.specs.Takes.{CanLeave}
use Rattle.om_undo_history.proofs.steps.take_out.Goals as goal

pub take_back-requires : goal.take_back-requires
take_back-requires c =
    let there = c.requires.there in
    subst (CanLeave c.args.store.now)
    (sym (c.leave-made.ensures.returned there.0 there.1 there.2 there.3))
    (c.requires.can there.0 there.1 there.2 there.3)
