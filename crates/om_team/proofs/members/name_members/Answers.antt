use Rattle.std.proofs.Common.{rules}
use Rattle.om_team.proofs.Counting.{members_past}
use Rattle.om_team.proofs.members.name_members.Goals as goal

pub loop-number-preserved : goal.loop-number-preserved
loop-number-preserved c = search (rules, members_past)
