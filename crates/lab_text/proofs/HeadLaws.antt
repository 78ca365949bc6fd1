-- What stands behind a head.
use Rattle.std.proofs.Common.{◌≡◌, ℕ, List, [], ◌++◌, ap, ◌∙◌}

-- what was written first, and what was written behind it
pub stands_behind : (front text all rest : List ℕ) → text ≡ [] ++ front → all ≡ text ++ rest → all ≡ front ++ rest
stands_behind front text all rest written more = more ∙ ap (λ t. t ++ rest) written
