use Rattle.om_undo_history.proofs.RunLaws.{roll_takes_cone}
use Rattle.om_undo_history.proofs.laws.roll_takes_cone.Goals as goal

pub returns : goal.returns
returns c = roll_takes_cone
