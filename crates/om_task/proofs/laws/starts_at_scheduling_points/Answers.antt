use Rattle.om_task.proofs.Starts.{starts_at_points}
use Rattle.om_task.proofs.laws.starts_at_scheduling_points.Goals as goal

pub returns : goal.returns
returns c = starts_at_points
