-- A text that is written many times, one time at a time.
use Rattle.std.proofs.Common.{◌≡◌, ap, ◌∙◌, ◌<◌, ◌-◌, ℕ, zero, suc, List, ◌++◌, append_assoc, arith}
use Rattle.lab_macros.specs.Sayings.{times}

-- with one time more, what is left gives all of them still
pub times_on : (left : ℕ) (part out more total : List ℕ) → 0 < left
    → more ≡ out ++ part
    → out ++ times left part ≡ total
    → more ++ times (left - 1) part ≡ total
times_on zero part out more total less wrote read = absurd (omega (arith, less))
times_on (suc n) part out more total less wrote read =
    let same : suc n - 1 ≡ n = omega arith in
    ap (λ k. more ++ times k part) same
    ∙ ap (λ l. l ++ times n part) wrote
    ∙ append_assoc out part (times n part)
    ∙ read
