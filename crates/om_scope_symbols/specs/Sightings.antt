-- Where names are declared, in the scopes round a place.
use Rattle.std.specs.Prelude.{◌≡◌, ℕ, List, [], ◌∷◌, ◌++◌, MatchOption, Option, None, Some, Vec, if◌then◌else◌, length}
use Rattle.std.specs.Prelude.{nat_eq, reverse}
use Rattle.std.specs.declared.alloc.Global.{Global}
use Rattle.std.specs.Map.{lookup}
use Rattle.std.specs.Str.{bytes_eq}
use Rattle.om_scope_symbols.specs.declared.symbols.Sighting.{Sighting}
use Rattle.om_scope_rules.specs.declared.names.Meaning.{Meaning}
use Rattle.om_scope_rules.specs.Scopes.{Scope}
use Rattle.om_scope_symbols.specs.Stacks.{seen_in}

-- once a scope of this depth declares a name as this, or does not declare it
abbrev pub with_sighting : ℕ → List Sighting → Option Meaning → List Sighting
with_sighting depth seen None = seen
with_sighting depth seen (Some meaning) = seen ++ record { depth = depth; meaning = meaning } ∷ []

-- the declarations of a name in scopes, of which the first is the innermost
abbrev pub sightings : List Scope → List ℕ → List Sighting
sightings [] name = []
sightings (scope ∷ outer) name = with_sighting (length outer) (sightings outer name) (lookup (bytes_eq name) scope)

-- a table has each name's declarations in these scopes
abbrev pub Shows : List (List ℕ × List Sighting) → List Scope → Type 0
Shows table scopes = (name : List ℕ) → seen_in table name ≡ sightings scopes name

-- a table has those in the scopes round a scope, once it had those in that scope too
abbrev pub ForgetsScope : Scope → (before now : List (List ℕ × List Sighting)) → Type 0
ForgetsScope scope before now = (outer : List Scope) → Shows before (scope ∷ outer) → Shows now outer

-- the scopes that tables of names hold, the innermost of which is the last table
abbrev pub scopes_of : List Scope → List Scope
scopes_of tables = reverse tables

-- a name is the last that a scope declares, and no other one there; without it the scope is this
abbrev pub IsLast : Scope → Scope → List ℕ → Type 0
IsLast scope left name = (meaning : Meaning) × (scope ≡ left ++ (name, meaning) ∷ []) × (lookup (bytes_eq name) left ≡ None)

-- the last name that a scope declares is taken out, if it declares one
abbrev pub TakesLast : Option (Vec ℕ Global) → (scope left : Scope) → Type 0
TakesLast taken scope left = MatchOption taken (scope ≡ []) (λ name. IsLast scope left name.items)

-- how deep the scope is that declares a name; nothing is declared round the file scope
abbrev pub depth_of : Option Sighting → ℕ
depth_of None = 0
depth_of (Some sighting) = sighting.depth

-- and what it declares it as
abbrev pub meaning_of_sighting : Option Sighting → Option Meaning
meaning_of_sighting None = None
meaning_of_sighting (Some sighting) = Some sighting.meaning

-- what the scope of this depth declares it as, where no deeper one declares it
abbrev pub meaning_at : Option Sighting → ℕ → Option Meaning
meaning_at None depth = None
meaning_at (Some sighting) depth = if nat_eq sighting.depth depth then Some sighting.meaning else None
