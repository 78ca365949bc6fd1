use Rattle.std.proofs.Common.{◌≡◌, ◌++◌, drop}
use Rattle.om_foot.specs.Cells.{cells_listed}
use Rattle.om_team_serial.specs.Objects.{same_puts}
use Rattle.om_team_serial.proofs.updates.put_runs.Given as goal

-- the puts so far and those of what is left are all
abbrev pub invariant-loop-cells : goal.invariant-loop-cells
invariant-loop-cells l = l.updates ++ same_puts l.cell (cells_listed (drop l.cells-index l.names))
    ≡ l.fn.updates ++ same_puts l.cell (cells_listed l.names)
