-- With one piece more, what is left gives the whole answer still.
use Rattle.std.proofs.Common.{◌≡◌, ℕ, ◌+◌, List, ◌∷◌, ◌++◌, drop, sym, ap, ◌∙◌, append_assoc}
use Rattle.std.specs.Prelude.{flat_map}
use Rattle.lab_port_tokens.specs.declared.piece.Piece.{Piece}
use Rattle.lab_port_rules.specs.declared.mark.Mark.{Mark}
use Rattle.lab_port_rules.specs.declared.rule.Meaning.{Meaning}
use Rattle.lab_port.specs.declared.ported.Change.{Change}
use Rattle.lab_port.specs.declared.ported.Refusal.{Refusal}
use Rattle.lab_port.specs.Portings.{changes_at, changes_from, refusals_at, refusals_from}

pub changes_on : (names : List Meaning) (pieces : List Piece) (marks : List Mark) (i : ℕ) (piece : Piece) (mark : Mark)
    (done more total : List Change)
    → drop i pieces ≡ piece ∷ drop (i + 1) pieces
    → drop i marks ≡ mark ∷ drop (i + 1) marks
    → more ≡ done ++ changes_at names mark piece (drop (i + 1) pieces)
    → done ++ changes_from names (drop i pieces) (drop i marks) ≡ total
    → more ++ changes_from names (drop (i + 1) pieces) (drop (i + 1) marks) ≡ total
changes_on names pieces marks i piece mark done more total ps ms pushed read =
    let rest = drop (i + 1) pieces in
    let after = drop (i + 1) marks in
    ap (λ l. l ++ changes_from names rest after) pushed
    ∙ append_assoc done (changes_at names mark piece rest) (changes_from names rest after)
    ∙ ap (λ l. done ++ changes_from names l (mark ∷ after)) (sym ps)
    ∙ ap (λ l. done ++ changes_from names (drop i pieces) l) (sym ms)
    ∙ read

pub refusals_on : (pieces : List Piece) (marks : List Mark) (i : ℕ) (piece : Piece) (mark : Mark)
    (done more total : List Refusal)
    → drop i pieces ≡ piece ∷ drop (i + 1) pieces
    → drop i marks ≡ mark ∷ drop (i + 1) marks
    → more ≡ done ++ refusals_at mark piece
    → done ++ refusals_from (drop i pieces) (drop i marks) ≡ total
    → more ++ refusals_from (drop (i + 1) pieces) (drop (i + 1) marks) ≡ total
refusals_on pieces marks i piece mark done more total ps ms pushed read =
    let rest = drop (i + 1) pieces in
    let after = drop (i + 1) marks in
    ap (λ l. l ++ refusals_from rest after) pushed
    ∙ append_assoc done (refusals_at mark piece) (refusals_from rest after)
    ∙ ap (λ l. done ++ refusals_from l (mark ∷ after)) (sym ps)
    ∙ ap (λ l. done ++ refusals_from (drop i pieces) l) (sym ms)
    ∙ read

-- the same for any list of which each item writes its bytes
pub lines_on : {X : Type 0} (f : X → List ℕ) (xs : List X) (i : ℕ) (x : X) (out more total : List ℕ)
    → drop i xs ≡ x ∷ drop (i + 1) xs
    → more ≡ out ++ f x
    → out ++ flat_map f (drop i xs) ≡ total
    → more ++ flat_map f (drop (i + 1) xs) ≡ total
lines_on f xs i x out more total there wrote read =
    let rest = drop (i + 1) xs in
    ap (λ l. l ++ flat_map f rest) wrote
    ∙ append_assoc out (f x) (flat_map f rest)
    ∙ ap (λ l. out ++ flat_map f l) (sym there)
    ∙ read
