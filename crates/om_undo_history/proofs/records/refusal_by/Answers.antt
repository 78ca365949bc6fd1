-- The record is there.
use Rattle.om_undo_history.proofs.Indexed.{there_is}
use Rattle.om_undo_history.proofs.records.refusal_by.Goals as goal

pub unreachable-requires : goal.unreachable-requires
unreachable-requires c = there_is c.args.kept.now c.args.serial c.args.undone.now c.requires c.in_default.ensures.none
