-- For proofs: reading one item, and more of them as long as they do not end.
use Rattle.std.specs.Prelude.{ℕ, zero, suc, List, [], ◌∷◌, Ok, Err, Bool, if◌then◌else◌}
use Rattle.om_lexer.specs.declared.token.Token.{Token}
use Rattle.om_parser_parts.specs.Reading.{◌>>=◌, Outcome, Reader, syntax}

-- items up to one behind which they end, one at least and at most so many
unfoldable pub one_or_more : {A : Type 0} → (ends : List Token → Bool) → Reader A → ℕ → List Token
    → Outcome (List A × List Token)
one_or_more ends item zero ts = item ts >>= λ a. Err (syntax ts)
one_or_more ends item (suc k) ts = item ts >>= λ a.
    if ends a.1 then Ok (a.0 ∷ [], a.1)
    else (one_or_more ends item k a.1 >>= λ b. Ok (a.0 ∷ b.0, b.1))
