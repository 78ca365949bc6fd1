use Rattle.std.proofs.Common.{rules}
use Rattle.om_team.proofs.Counting.{busy_in_next}
use Rattle.om_team.proofs.members.busy.Goals as goal

pub loop-worker-preserved : goal.loop-worker-preserved
loop-worker-preserved c = search (rules, busy_in_next)
