use Rattle.std.proofs.Common.{◌≡◌, ◌++◌, ◌-◌}
use Rattle.om_foot.specs.Cells.{cells_from}
use Rattle.om_foot.proofs.names.list_cells.Given as goal

-- the cells so far and those of what is left are all
abbrev pub invariant-loop-index : goal.invariant-loop-index
invariant-loop-index l = l.names ++ cells_from l.cells.slot l.index (l.cells.count - l.index)
    ≡ l.fn.names ++ cells_from l.cells.slot 0 l.cells.count
