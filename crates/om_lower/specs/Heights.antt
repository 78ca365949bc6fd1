-- Which bodies have more than 256 operands at once.
use Rattle.std.specs.Prelude.{◌≡◌, ◌≤◌, ◌<◌, ℕ, List, Option, None, Some, All, Any, slice_get, take, length}
use Rattle.om_code.specs.declared.raw.Body.{Body}
use Rattle.om_code.specs.Validity.{IsLow}
use Rattle.om_lower_rules.specs.Laws.{IsLevel}

-- level code of at most 65,536 instructions
pub record IsLevelBody (picks : List (List ℕ)) (body : Body) : Type 0 where
  pub level : IsLevel picks body.code
  pub short : length body.code ≤ 65536

abbrev pub AreLevel : List (List ℕ) → List Body → Type 0
AreLevel picks bodies = All (λ body. IsLevelBody picks body) bodies

abbrev pub AreLow : List (List ℕ) → List Body → Type 0
AreLow picks bodies = All (λ body. IsLow picks body.code) bodies

-- one of them has more
abbrev pub IsHigh : List (List ℕ) → List Body → Type 0
IsHigh picks bodies = Any (λ body. ¬ (IsLow picks body.code)) bodies

-- of the bodies of functions, function by function: the first that has such a body
pub record IsFirst (picks : List (List ℕ)) (functions : List (List Body)) (index : ℕ) : Type 0 where
  pub within : index < length functions
  pub bodies : List Body
  pub there : slice_get functions index ≡ Some bodies
  pub high : IsHigh picks bodies
  pub before : All (λ bodies. AreLow picks bodies) (take index functions)

abbrev pub IsFirstHigh : List (List ℕ) → List (List Body) → Option ℕ → Type 0
IsFirstHigh picks functions None = All (λ bodies. AreLow picks bodies) functions
IsFirstHigh picks functions (Some index) = IsFirst picks functions index
