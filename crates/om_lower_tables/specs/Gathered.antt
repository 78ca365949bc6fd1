-- What a walk over the functions of a program gathers of them.
use Rattle.std.specs.Prelude.{◌≡◌, ◌++◌, ◌∷◌, [], List, map}
use Rattle.std.specs.List.{AllZip}
use Rattle.om_scope_tree.specs.declared.resolved.ResolvedFunction.{ResolvedFunction}
use Rattle.om_scope_tree.specs.ResolvedView as view
use Rattle.om_lower_rules.specs.Bodies.{first_numbers}
use Rattle.om_lower_rules.specs.Numbering.{function_numbers}
use Rattle.om_lower_rules.specs.ProgramTables.{AreCellsOf}
use Rattle.om_lower_tables.specs.declared.tables.Functions.{Functions}
use Rattle.om_lower_tables.specs.Noted.{AddsCells}

-- the number of the body of one more function has been added, which is the next one
abbrev pub AddsBodyNumber : (old new : Functions) → Type 0
AddsBodyNumber old new = new.bodies.items ≡ old.bodies.items ++ old.walk.numbers.bodies ∷ []

-- those of all functions have been, from the first number on
abbrev pub AddsBodyNumbers : List ResolvedFunction → (old new : Functions) → Type 0
AddsBodyNumbers functions old new =
    new.bodies.items ≡ old.bodies.items ++ function_numbers first_numbers (map view.function functions)

-- how many cells the variables of one more function have has been found
abbrev pub AddsCellsOf : ResolvedFunction → (old new : Functions) → Type 0
AddsCellsOf function old new = AddsCells (view.function function) old.extents.items new.extents.items

-- how many cells those of each function have is known, function by function
abbrev pub HaveCells : List ResolvedFunction → Functions → Type 0
HaveCells functions made = AllZip AreCellsOf (map view.function functions) made.extents.items
