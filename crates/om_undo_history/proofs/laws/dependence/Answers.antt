use Rattle.om_undo_history.proofs.Frame.{step_at-agree}
use Rattle.om_undo_history.proofs.laws.dependence.Goals as goal

pub returns : goal.returns
returns c = step_at-agree
