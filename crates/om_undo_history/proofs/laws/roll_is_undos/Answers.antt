use Rattle.om_undo_history.proofs.RunLaws.{roll_is_undos}
use Rattle.om_undo_history.proofs.laws.roll_is_undos.Goals as goal

pub returns : goal.returns
returns c = roll_is_undos
