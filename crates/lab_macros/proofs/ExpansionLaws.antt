-- The lines of a command file, one at a time.
use denote.Ref.{Bor}
use Rattle.std.proofs.Common.{◌≡◌, sym, ap, subst, ◌∙◌, ◌<◌, ◌≤◌, ◌+◌, ℕ, List, [], ◌∷◌, ◌++◌, take, length, get_or, arith}
use Rattle.std.proofs.lemmas.List.{length-map, length-take-le, map-append, take_all, take_more}
use Rattle.om_shell_commands.specs.Words.{spelled}
use Rattle.lab_macros.specs.declared.expanded.Meant.TheVariants as meant
use Rattle.lab_macros.specs.declared.expanded.Place.{Place}
use Rattle.lab_macros.specs.declared.said.Said.{Said}
use Rattle.lab_macros.specs.Expansions.{Expands, StandsFor, one_more, told_at}

spelled_more : (xs : List (Bor (List ℕ))) (i : ℕ) (x : Bor (List ℕ)) → i < length xs → x ≡ get_or xs i x
    → spelled (take (i + 1) xs) ≡ spelled (take i xs) ++ x.now ∷ []
spelled_more xs i x less is =
    ap spelled (take_more xs i x less ∙ ap (λ y. take i xs ++ y ∷ []) (sym is))
    ∙ map-append (λ (word : Bor (List ℕ)). word.now) (take i xs) (x ∷ [])

spelled_length : (xs : List (Bor (List ℕ))) (i : ℕ) → i < length xs → length (spelled (take i xs)) ≡ i
spelled_length xs i less =
    length-map (take i xs) (λ (word : Bor (List ℕ)). word.now) ∙ length-take-le i xs (omega (arith, less))

-- one more line stands for what it does behind the commands so far
pub expands_more : (p : Place) (xs : List (Bor (List ℕ))) (i : ℕ) (x : Bor (List ℕ))
    (commands told longer more : List ℕ) (said : Said) → i < length xs → x ≡ get_or xs i x
    → Expands p (spelled (take i xs)) commands told → StandsFor p commands x.now (meant.Said said)
    → longer ≡ commands ++ said.commands → more ≡ told ++ told_at (p.first + i) said.words
    → Expands p (spelled (take (i + 1) xs)) longer more
expands_more p xs i x commands told longer more said less is so_far stands e f =
    let lines = spelled (take i xs) in
    let added = told ++ told_at (p.first + length lines) said.words in
    let same : more ≡ added = f ∙ ap (λ n. told ++ told_at (p.first + n) said.words) (sym (spelled_length xs i less)) in
    let step : Expands p (lines ++ x.now ∷ []) (commands ++ said.commands) added =
    one_more lines commands told x.now said so_far stands in
    subst (λ l. Expands p l longer more) (sym (spelled_more xs i x less is))
    (subst (λ t. Expands p (lines ++ x.now ∷ []) t more) (sym e)
    (subst (λ t. Expands p (lines ++ x.now ∷ []) (commands ++ said.commands) t) (sym same) step))

-- all lines stand for all commands
pub expands_all : (p : Place) (xs : List (Bor (List ℕ))) (all : List (List ℕ)) (i : ℕ) (commands told : List ℕ)
    → length xs ≤ i → spelled xs ≡ all → Expands p (spelled (take i xs)) commands told → Expands p all commands told
expands_all p xs all i commands told most is so_far =
    subst (λ l. Expands p l commands told) (ap spelled (take_all i xs most) ∙ is) so_far
