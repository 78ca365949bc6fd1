use Rattle.std.proofs.Common.{rules}
use Rattle.om_team_worksharing.proofs.Counting.{barrier_read}
use Rattle.om_team_worksharing.proofs.meetings.left_answer.Goals as goal

pub returns : goal.returns
returns c = search (rules, barrier_read)
