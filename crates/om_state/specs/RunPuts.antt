-- The puts of a run, one more behind them: matter of proofs, for crates that make them one by one.
use Rattle.std.proofs.Common.{◌≡◌, refl, ◌∙◌, ap, ℕ, zero, suc, ◌+◌, [], ◌∷◌, ◌++◌, arith}
use Rattle.om_code.specs.declared.frame.Cell as cell
use Rattle.om_state.specs.declared.step.Update.TheVariants.{Put}
use Rattle.om_state.specs.declared.value.Val.TheVariants as value
use Rattle.om_state.specs.Runs.{puts_of}

pub puts_more : (c : cell.Cell) (n : ℕ) → puts_of c (n + 1) ≡ puts_of c n ++ Put (value.Cell c) ∷ []
puts_more c zero = refl
puts_more c (suc n) = ap (puts_of c) (next n) ∙ ap (λ us. Put (value.Cell c) ∷ us) (puts_more c n)
  where
    next : (m : ℕ) → suc m + 1 ≡ suc (m + 1)
    next m = omega arith
