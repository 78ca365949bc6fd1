-- What is found behind several variables is where the region begins, and those of them that it takes.
use Rattle.std.proofs.Common.{◌≡◌, ℕ, List, [], ◌∷◌, fold, refl}
use Rattle.om_scope_tree.specs.Captures.{with_use}
use Rattle.om_scope_tree.specs.FoundVariables.{with_found}

pub found_behind : (start : ℕ) (variables uses : List ℕ)
    → fold with_found (record { start = start; variables = variables }) uses
    ≡ record { start = start; variables = fold (with_use start) variables uses }
found_behind start variables [] = refl
found_behind start variables (v ∷ uses) = found_behind start (with_use start variables v) uses
