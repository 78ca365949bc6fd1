use Rattle.std.proofs.Common.{rules}
use Rattle.om_team_serial.proofs.Same.{same_parts}
use Rattle.om_team_serial.proofs.updates.put_each.Goals as goal

pub returns : goal.returns
returns c = search (rules, same_parts)
