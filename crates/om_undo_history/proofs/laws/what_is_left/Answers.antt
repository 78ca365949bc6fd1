use Rattle.om_undo_history.proofs.Leaves.{each_leaves}
use Rattle.om_undo_history.proofs.laws.what_is_left.Goals as goal

pub returns : goal.returns
returns c = each_leaves
