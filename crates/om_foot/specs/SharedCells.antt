-- Cells of a slot by the objects at their two ends.
use Rattle.std.specs.Prelude.{ℕ, Option, None, Some, []}
use Rattle.om_foot.specs.declared.object.Obj.{Obj}
use Rattle.om_foot.specs.declared.object.Cells.{Cells}
use Rattle.om_foot.specs.Cells.{Spot, cell_at, spot_of}

-- a cell at an index of the slot of some cells
abbrev pub cell_in : Cells → ℕ → Obj
cell_in c index = cell_at c.slot index

-- the cells of a slot before a place in it; none before no place
abbrev pub cells_up_to : Option Spot → Cells
cells_up_to (Some p) = record { slot = p.0; count = p.1 }
cells_up_to None = record { slot = record { task = []; frame = 0; slot = 0 }; count = 0 }

-- the cells of a slot before one of it; none before another object
abbrev pub cells_before : Obj → Cells
cells_before o = cells_up_to (spot_of o)
