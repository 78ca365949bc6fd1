use Rattle.std.proofs.Common.{rules}
use Rattle.om_team.proofs.Counting.{given_past}
use Rattle.om_team.proofs.members.put_given.Goals as goal

pub loop-number-preserved : goal.loop-number-preserved
loop-number-preserved c = search (rules, given_past)
