-- For proofs: reading parts that may be left out, and parts that stand one after another.
use Rattle.std.specs.Prelude.{ℕ, zero, suc, List, [], ◌∷◌, Option, Some, None, Ok, Err}
use Rattle.om_lexer.specs.declared.token.Span.{Span}
use Rattle.om_lexer.specs.declared.token.Token.{Token}
use Rattle.om_parser_parts.specs.Reading.{◌>>=◌, choose, Outcome, Reader, syntax}

-- an item that may be left out
abbrev pub optional : {A : Type 0} → Option (A × List Token) → List Token → Option A × List Token
optional found ts = choose found (λ x. (Some x.0, x.1)) (None, ts)

-- items up to one that ends them, at most so many
unfoldable pub until : {A : Type 0} → (List Token → Option (Span × List Token)) → Reader A → ℕ → List Token
    → Outcome (List A × Span × List Token)
until ender item zero ts = item ts >>= λ a. Err (syntax ts)
until ender item (suc k) ts = choose (ender ts)
    (λ e. Ok ([], e.0, e.1))
    (item ts >>= λ a. until ender item k a.1 >>= λ b. Ok (a.0 ∷ b.0, b.1, b.2))
