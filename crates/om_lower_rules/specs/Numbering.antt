-- The numbers of bodies and of lists of PICK.
use Rattle.std.specs.Prelude.{ℕ, List, [], ◌∷◌}
use Rattle.om_scope_tree.specs.ResolvedTree.{ResolvedFunctionTree}
use Rattle.om_lower_rules.specs.Bodies as rows
use Rattle.om_lower_rules.specs.Bodies.{behind_function}
use Rattle.om_lower_rules.specs.declared.tables.Numbers.{Numbers}

abbrev pub numbers_of : Numbers → rows.Numbers
numbers_of n = record { bodies = n.bodies; picks = n.picks }

-- the numbers of the bodies of functions, one behind the other
abbrev pub function_numbers : rows.Numbers → List ResolvedFunctionTree → List ℕ
function_numbers n [] = []
function_numbers n (f ∷ fs) = n.bodies ∷ function_numbers (behind_function n f) fs
