use Rattle.om_undo.proofs.ReadyNames.{names_are_ready}
use Rattle.om_undo.proofs.laws.ready_names_are_ready.Goals as goal

pub returns : goal.returns
returns c = names_are_ready
