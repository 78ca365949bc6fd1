use Rattle.std.proofs.Common.{rules}
use Rattle.om_team_worksharing.proofs.Leaving.{above_another, not_the_first}
use Rattle.om_team_worksharing.proofs.meetings.leave.Goals as goal

pub returns : goal.returns
returns c = search (rules, above_another, not_the_first)
