use Rattle.std.proofs.Common.{rules}
use Rattle.om_team.proofs.Counting.{controls_past}
use Rattle.om_team.proofs.members.put_members.Goals as goal

pub loop-number-preserved : goal.loop-number-preserved
loop-number-preserved c = search (rules, controls_past)
