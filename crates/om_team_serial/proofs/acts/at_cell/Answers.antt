use Rattle.std.proofs.Common.{rules}
use Rattle.om_team_serial.proofs.Variables.{variable_untrailed}
use Rattle.om_team_serial.proofs.acts.at_cell.Goals as goal

pub cell-cell-requires : goal.cell-cell-requires
cell-cell-requires c = search (rules, variable_untrailed)
