-- The number of the body of a function.
use Rattle.std.proofs.Common.{◌≡◌, ℕ, zero, suc, List, [], ◌∷◌, take, slice_get, refl, ap, ◌∙◌}
use Rattle.std.specs.Option.{unwrap_or}
use Rattle.om_scope_tree.specs.ResolvedTree.{ResolvedFunctionTree}
use Rattle.om_lower_rules.specs.Bodies.{Numbers, behind_function, behind_functions, called_body, first_numbers}
use Rattle.om_lower_rules.specs.Numbering.{function_numbers}

pub called_at : (n : Numbers) (fs : List ResolvedFunctionTree) (k : ℕ)
    → unwrap_or (slice_get (function_numbers n fs) k) (behind_functions n fs).bodies
    ≡ (behind_functions n (take k fs)).bodies
called_at n [] zero = refl
called_at n [] (suc k) = refl
called_at n (f ∷ fs) zero = refl
called_at n (f ∷ fs) (suc k) = called_at (behind_function n f) fs k

-- by the tables
pub called_in : (fs : List ResolvedFunctionTree) (k : ℕ) (numbers : List ℕ) (behind : ℕ)
    → numbers ≡ function_numbers first_numbers fs → behind ≡ (behind_functions first_numbers fs).bodies
    → unwrap_or (slice_get numbers k) behind ≡ called_body fs k
called_in fs k numbers behind same last =
    ap (λ found. unwrap_or (slice_get found k) behind) same
    ∙ ap (λ all. unwrap_or (slice_get (function_numbers first_numbers fs) k) all) last ∙ called_at first_numbers
    fs k
