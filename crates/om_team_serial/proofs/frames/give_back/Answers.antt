use Rattle.std.proofs.Common.{rules}
use Rattle.om_team_serial.proofs.Returns.{gives}
use Rattle.om_team_serial.proofs.frames.give_back.Goals as goal

pub returns : goal.returns
returns c = search (rules, gives)
