use Rattle.std.proofs.Common.{◌≡◌, ◌∙◌, ap, ◌++◌, ◌+◌, drop, arith}
use Rattle.om_foot.specs.Cells.{cells_listed}
use Rattle.om_team_serial.specs.Objects.{same_puts}
use Rattle.om_team_serial.proofs.Same.{runs_past}
use Rattle.om_team_serial.proofs.updates.put_runs.Goals as goal

pub loop-cells-preserved : goal.loop-cells-preserved
loop-cells-preserved c =
    ap (λ us. us ++ same_puts c.args.cell (cells_listed (drop (c.loop-cells.cells-index + 1) c.args.names.now)))
    c.in_ok-push_run.ensures
    ∙ runs_past c.loop-cells.updates c.args.cell c.args.names.now c.loop-cells.cells-index c.cells-item.result
    c.cells-item.result (omega (arith, c.loop-cells-test.true)) c.cells-item.is ∙ c.loop-cells.invariant
