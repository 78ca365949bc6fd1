use Rattle.om_task.proofs.Replays.{low_counters}
use Rattle.om_task.proofs.laws.low_counters.Goals as goal

pub returns : goal.returns
returns c = low_counters
