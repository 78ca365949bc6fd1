use Rattle.std.proofs.Common.{◌≡◌, ◌++◌, drop}
use Rattle.om_foot.specs.Cells.{cells_listed}
use Rattle.om_foot.proofs.names.list_each.Given as goal

-- the cells so far and those of what is left are all
abbrev pub invariant-loop-cells : goal.invariant-loop-cells
invariant-loop-cells l = l.names ++ cells_listed (drop l.cells-index l.all) ≡ l.fn.names ++ cells_listed l.all
