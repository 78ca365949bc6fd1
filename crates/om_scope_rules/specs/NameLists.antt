-- Lists of names, and maps by which names are found in them.
use Rattle.std.specs.Prelude.{◌≡◌, ℕ, List, [], ◌∷◌, ◌++◌, Bool, Vec, if◌then◌else◌}
use Rattle.std.specs.BTreeMap.{is_at}
use Rattle.std.specs.Cmp.Lexicographic.{slice_cmp}
use Rattle.std.specs.List.{list_any, position}
use Rattle.std.specs.Map.{lookup}
use Rattle.std.specs.Ordering.{nat_cmp}
use Rattle.std.specs.Str.{bytes_eq}
use Rattle.std.specs.declared.alloc.Global.{Global}

-- two names with the same text
abbrev pub same_name : Vec ℕ Global → Vec ℕ Global → Bool
same_name one other = bytes_eq one.items other.items

-- names, each once
abbrev pub with_name : List (List ℕ) → List ℕ → List (List ℕ)
with_name names name = if list_any (bytes_eq name) names then names else names ++ name ∷ []

-- the map has at each name its place in the list, and nothing where it is not there
abbrev pub ArePlaces : List (List ℕ) → List (Vec ℕ Global × ℕ) → Type 0
ArePlaces names places =
    (name : List ℕ) → lookup (is_at (λ key. slice_cmp nat_cmp name key.items)) places ≡ position (bytes_eq name) names
