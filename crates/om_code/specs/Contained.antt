-- What a list contains: matter of proofs, for whoever goes where an instruction leads.
use Rattle.std.proofs.Common.{ℕ, suc, List, ◌∷◌, refl, arith}
use Rattle.std.specs.Prelude.{Contains}

pub Contains-here : (x : ℕ) (xs : List ℕ) → Contains (x ∷ xs) x
Contains-here x xs = (0, omega arith, refl)

pub Contains-there : (x y : ℕ) (xs : List ℕ) → Contains xs y → Contains (x ∷ xs) y
Contains-there x y xs (k, lt, e) = (suc k, omega (arith, lt), e)
