use Rattle.om_undo_history.proofs.Undoing.{step_undone}
use Rattle.om_undo_history.proofs.laws.step_then_undo.Goals as goal

pub returns : goal.returns
returns c = step_undone
