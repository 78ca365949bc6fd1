use Rattle.std.proofs.Common.{◌≡◌, ◌++◌, drop}
use Rattle.om_foot.specs.Cells.{cells_listed}
use Rattle.lab_races.proofs.accesses.push_cells.Given as goal

-- what was added so far, and the rest, are all
abbrev pub invariant-loop-slot : goal.invariant-loop-slot
invariant-loop-slot l = l.all.items ++ cells_listed (drop l.slot-index l.slots)
    ≡ l.initial.all.items ++ cells_listed l.slots
