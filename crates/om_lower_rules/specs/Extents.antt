-- How many cells the declared variables of a function have, each variable once.
use Rattle.std.specs.Prelude.{ℕ, List, [], ◌∷◌, ◌++◌, Bool, fold, map, nat_eq, if◌then◌else◌}
use Rattle.std.specs.List.{list_any}
use Rattle.om_lower_rules.specs.Slots.{Extent}

-- a variable has the extent that is found first
abbrev pub is_extent_of : ℕ → Extent → Bool
is_extent_of variable extent = nat_eq variable extent.variable

abbrev pub with_extent : List Extent → Extent → List Extent
with_extent extents extent = if list_any (is_extent_of extent.variable) extents then extents else extents ++ extent ∷ []

-- behind the declaration of this variable with so many cells
abbrev pub with_declaration : List Extent → (variable : ℕ) → (cells : ℕ) → List Extent
with_declaration extents variable cells = with_extent extents (record { variable = variable; cells = cells })

-- behind further declarations
abbrev pub measured : List Extent → (declared : List Extent) → List Extent
measured extents declared = fold with_extent extents declared

-- the entries of a table, as extents
abbrev pub extent_at : ℕ × ℕ → Extent
extent_at entry = record { variable = entry.0; cells = entry.1 }

abbrev pub extents_in : List (ℕ × ℕ) → List Extent
extents_in entries = map extent_at entries
