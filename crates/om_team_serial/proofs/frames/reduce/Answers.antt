use Rattle.std.proofs.Common.{rules}
use Rattle.om_team_serial.proofs.Variables.{variable_untrailed}
use Rattle.om_team_serial.proofs.frames.reduce.Goals as goal

pub cell-requires : goal.cell-requires
cell-requires c = search (rules, variable_untrailed)
