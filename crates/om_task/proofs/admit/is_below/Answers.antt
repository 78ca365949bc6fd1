use Rattle.om_task.proofs.Admits.{is_same}
use Rattle.om_task.proofs.admit.is_below.Goals as goal

pub returns : goal.returns
returns c = is_same c.is_descendant.result c.args.name.now c.args.other.now c.is_descendant.ensures
