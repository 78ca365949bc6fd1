-- Where the cells of a slot lie.
use Rattle.std.specs.Prelude.{ℕ, List}
use Rattle.om_foot.specs.declared.object.Obj.{Obj}
use Rattle.om_foot.specs.declared.object.Obj.TheVariants.{Cell}
use Rattle.om_state.specs.declared.control.Home.{Home}
use Rattle.om_state.specs.declared.control.Home.TheVariants.{Own, Elsewhere}

-- the cell at an index of a slot, in the frame of a task with this ordinal
abbrev pub cell_of : List ℕ → ℕ → ℕ → ℕ → Home → Obj
cell_of task frame slot index Own = Cell task frame slot index
cell_of task frame slot index (Elsewhere t f s) = Cell t f s index
