-- The tables of a program.
use Rattle.std.specs.Prelude.{◌≡◌, ℕ, List, map}
use Rattle.std.specs.List.{AllZip}
use Rattle.om_scope_tree.specs.ResolvedTree.{ResolvedFunctionTree, ResolvedTree}
use Rattle.om_lower_rules.specs.Bodies.{Numbers, behind_functions, first_numbers}
use Rattle.om_lower_rules.specs.Mentions.{atomic_lines, extents_of, formats_of, locks_of}
use Rattle.om_lower_rules.specs.Slots.{Extent, cells_in}
use Rattle.om_lower_rules.specs.declared.body.BodyTables.{BodyTables}
use Rattle.om_lower_rules.specs.declared.tables.Tables.{Tables}
use Rattle.om_lower_rules.specs.Ends.{KnownBodies, ends_from}
use Rattle.om_lower_rules.specs.Numbering.{function_numbers, numbers_of}

-- they number the bodies of these functions
pub record AreBodiesOf (functions : List ResolvedFunctionTree) (tables : Tables) : Type 0 where
  pub bodies : tables.bodies.items ≡ function_numbers first_numbers functions
  pub behind : numbers_of tables.behind ≡ behind_functions first_numbers functions

-- the numbers behind each body, by its number
abbrev pub ends_in : Tables → List Numbers
ends_in tables = map numbers_of tables.ends.items

-- how many cells the variables of a function have
abbrev pub AreCellsOf : ResolvedFunctionTree → List Extent → Type 0
AreCellsOf f extents = (variable : ℕ) → cells_in extents variable ≡ cells_in (extents_of f) variable

pub record IsTablesOf (tree : ResolvedTree) (tables : Tables) : Type 0 where
  pub formats : tables.formats ≡ formats_of tree
  pub locks : tables.locks ≡ locks_of tree
  pub atomics : tables.atomics.entries ≡ atomic_lines tree
  pub cells : AllZip AreCellsOf tree.functions tables.extents.items
  pub numbered : AreBodiesOf tree.functions tables
  pub ends : ends_in tables ≡ ends_from first_numbers tree.functions

-- what a program's tables and the variables of its first bodies say of these
abbrev pub known_of : Tables → (slots : List (List ℕ)) → KnownBodies
known_of tables slots = record { ends = ends_in tables; slots = slots }

abbrev pub known_in : BodyTables → KnownBodies
known_in tables = known_of tables.program.now tables.known.now
