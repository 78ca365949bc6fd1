use Rattle.om_undo_history.proofs.Exactly.{exactly_where}
use Rattle.om_undo_history.proofs.laws.exactly_where.Goals as goal

pub returns : goal.returns
returns c = exactly_where
