use Rattle.std.proofs.Common.{rules}
use Rattle.om_team.proofs.Counting.{busy_read}
use Rattle.om_team.proofs.teams.team_answer.Goals as goal

pub returns : goal.returns
returns c = search (rules, busy_read)
