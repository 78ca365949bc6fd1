use Rattle.std.proofs.Common.{◌≡◌, ◌++◌, drop}
use Rattle.om_foot.specs.Cells.{cells_listed}
use Rattle.om_foot.proofs.names.Names.push_each_of.Given as goal

-- the cells so far and those of what is left are all
abbrev pub invariant-loop-cells : goal.invariant-loop-cells
invariant-loop-cells l = l.self ++ cells_listed (drop l.cells-index l.others) ≡ l.fn.self ++ cells_listed l.others
