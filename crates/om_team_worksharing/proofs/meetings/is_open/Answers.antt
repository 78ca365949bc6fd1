use Rattle.std.proofs.Common.{rules}
use Rattle.om_team_worksharing.proofs.Counting.{open_in_next}
use Rattle.om_team_worksharing.proofs.meetings.is_open.Goals as goal

pub loop-number-preserved : goal.loop-number-preserved
loop-number-preserved c = search (rules, open_in_next)
