use Rattle.om_drive.proofs.Turns.{each_same}
use Rattle.om_drive.proofs.freely.free_over.Goals as goal

pub returns-in_default-clause-in_turn : goal.returns-in_default-clause-in_turn
returns-in_default-clause-in_turn g c = each_same 0 _
