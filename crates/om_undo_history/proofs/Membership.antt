-- What a list contains, by its first element, and without one.
use Rattle.std.proofs.Common.{◌≡◌, List, [], ◌∷◌, ◌++◌, ◌⊎◌, inl, inr, ⊎_elim, sym, arith}
use Rattle.std.specs.Prelude.{Contains}
use Rattle.std.proofs.lemmas.List.Elements.{Contains-append_left, Contains-append_right, Contains-append_cases}
use Rattle.std.proofs.lemmas.List.Elements.{Contains-push, Contains-push_cases}

pub Contains-cases : {X : Type 0} → (x : X) (xs : List X) (y : X) → Contains (x ∷ xs) y → (x ≡ y) ⊎ Contains xs y
Contains-cases x xs y h = ⊎_elim
    (λ one. ⊎_elim (λ none. absurd (omega (arith, none.1))) (λ is. inl is) (Contains-push_cases [] x y one))
    (λ rest. inr rest) (Contains-append_cases (x ∷ []) xs y h)

pub Contains-none : {X : Type 0} → (y : X) → Contains [] y → ⊥
Contains-none y h = omega (arith, h.1)

pub Contains-first : {X : Type 0} → (x : X) (xs : List X) → Contains (x ∷ xs) x
Contains-first x xs = Contains-append_left (x ∷ []) xs x (Contains-push [] x)

pub Contains-rest : {X : Type 0} → (x : X) (xs : List X) (y : X) → Contains xs y → Contains (x ∷ xs) y
Contains-rest x xs y h = Contains-append_right (x ∷ []) xs y h

-- all but one
pub Contains-but_one : {X : Type 0} → (before : List X) (x : X) (later : List X) (y : X)
    → Contains (before ++ x ∷ later) y → (y ≡ x) ⊎ Contains (before ++ later) y
Contains-but_one before x later y h =
    ⊎_elim (λ a. inr (Contains-append_left before later y a))
    (λ b. ⊎_elim (λ is. inl (sym is)) (λ c. inr (Contains-append_right before later y c))
    (Contains-cases x later y b))
    (Contains-append_cases before (x ∷ later) y h)
