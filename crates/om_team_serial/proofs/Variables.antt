-- The cell of a variable is no control.
use Rattle.std.proofs.Common.{◌≡◌, refl, ℕ, List, false}
use Rattle.om_code.specs.declared.instruction.Place.{Place}
use Rattle.om_code.specs.declared.instruction.Place.TheVariants as place
use Rattle.om_state.specs.declared.control.Context.{Context}
use Rattle.om_state.specs.declared.control.Home.{Home}
use Rattle.om_state.specs.declared.control.Home.TheVariants.{Own, Elsewhere}
use Rattle.om_state.specs.Homes.{cell_of}
use Rattle.om_memory.specs.Memories.{is_trailed}
use Rattle.om_team_serial.specs.Objects.{object_of, home_at}

cell_untrailed : (task : List ℕ) (frame slot index : ℕ) (home : Home) → is_trailed (cell_of task frame slot index home) ≡ false
cell_untrailed task frame slot index Own = refl
cell_untrailed task frame slot index (Elsewhere t f s) = refl

pub variable_untrailed : (c : Context) (p : Place) (index : ℕ) → is_trailed (object_of c p index) ≡ false
variable_untrailed c (place.Global variable) index = refl
variable_untrailed c (place.Slot slot) index = cell_untrailed c.task c.frame.ordinal slot index (home_at c.frame.homes slot)
