use Rattle.std.proofs.Common.{rules}
use Rattle.om_team_worksharing.proofs.Counting.{barrier_read}
use Rattle.om_team_worksharing.proofs.meetings.depart.Goals as goal

pub returns : goal.returns
returns c = search (rules, barrier_read)
