use Rattle.std.proofs.Common.{◌≡◌, ◌∙◌, ap, ◌++◌, ◌-◌, ◌+◌, arith}
use Rattle.om_foot.specs.Cells.{cells_from}
use Rattle.om_foot.proofs.CellLists.{cells_past}
use Rattle.om_foot.proofs.names.list_cells.Goals as goal

pub loop-index-preserved : goal.loop-index-preserved
loop-index-preserved c =
    ap (λ names. names ++ cells_from c.args.cells.now.slot (c.loop-index.index + 1)
    (c.args.cells.now.count - (c.loop-index.index + 1))) (c.in_ok-list_cell.ensures)
    ∙ cells_past c.loop-index.names c.args.cells.now.slot c.loop-index.index c.args.cells.now.count
    (omega (arith, c.loop-index-test.true))
    ∙ c.loop-index.invariant
