use Rattle.std.proofs.Common.{◌≡◌, ◌++◌, ◌-◌}
use Rattle.om_foot.specs.Cells.{cells_from, cells_of}
use Rattle.lab_races.proofs.accesses.push_slot.Given as goal

-- what was added so far, and the rest, are all
abbrev pub invariant-loop-index : goal.invariant-loop-index
invariant-loop-index l = l.all.items ++ cells_from l.cells.slot l.index (l.cells.count - l.index)
    ≡ l.initial.all.items ++ cells_of l.cells
