use Rattle.std.proofs.Common.{rules}
use Rattle.om_team_worksharing.proofs.Counting.{replicate_past}
use Rattle.om_team_worksharing.proofs.meetings.put_kept.Goals as goal

pub loop-number-preserved : goal.loop-number-preserved
loop-number-preserved c = search (rules, replicate_past)
