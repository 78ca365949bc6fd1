-- With one place more, what is left gives all lines still.
use Rattle.std.proofs.Common.{◌≡◌, ℕ, ◌+◌, ◌-◌, ◌<◌, List, ◌∷◌, ◌++◌, drop, take, length, get_or, sym, ap, ◌∙◌, arith, append_assoc, length-drop, take_all}
use Rattle.std.proofs.lemmas.List.{drop_more}
use Rattle.lab_port_kinds.specs.declared.found.Found.{Found}
use Rattle.lab_port_kinds.specs.Kinds.{line_by, lines_from}

pub lines_on : (places : List Found) (i : ℕ) (one : Found) (out more total : List ℕ)
    → i < length places
    → one ≡ get_or places i one
    → more ≡ out ++ line_by (take i places) one (take (length places - (i + 1)) (drop (i + 1) places))
    → out ++ lines_from places i (drop i places) ≡ total
    → more ++ lines_from places (i + 1) (drop (i + 1) places) ≡ total
lines_on places i one out more total inside is wrote read =
    let rest = drop (i + 1) places in
    let there : drop i places ≡ one ∷ rest =
    drop_more places i one inside ∙ ap (λ x. x ∷ rest) (sym is) in
    let all : take (length places - (i + 1)) rest ≡ rest =
    take_all (length places - (i + 1)) rest (let h = length-drop (i + 1) places in omega (arith, h)) in
    ap (λ l. l ++ lines_from places (i + 1) rest) (wrote ∙ ap (λ l. out ++ line_by (take i places) one l) all)
    ∙ append_assoc out (line_by (take i places) one rest) (lines_from places (i + 1) rest)
    ∙ ap (λ l. out ++ lines_from places i l) (sym there)
    ∙ read
