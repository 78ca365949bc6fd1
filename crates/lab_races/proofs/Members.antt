-- What is in a list, item by item; and tests that hold of one.
use Rattle.std.proofs.Common.{◌≡◌, refl, sym, ◌∙◌, ap, subst, Bool, true, false, cond, ◌||◌, List, [], ◌∷◌, ◌++◌}
use Rattle.std.proofs.Common.{◌⊎◌, inl, inr, ⊎_elim, arith}
use Rattle.std.specs.Prelude.{Contains, filter}
use Rattle.std.specs.List.{list_any}
use Rattle.std.proofs.lemmas.List.Elements.{Contains-append_left, Contains-append_right, Contains-append_cases, Contains-push}
use Rattle.std.proofs.lemmas.List.Elements.{Contains-push_cases}

pub Contains-none : {X : Type 0} → (y : X) → Contains [] y → ⊥
Contains-none y h = omega (arith, h.1)

pub Contains-cases : {X : Type 0} → (x : X) (xs : List X) (y : X) → Contains (x ∷ xs) y → (x ≡ y) ⊎ Contains xs y
Contains-cases x xs y h = ⊎_elim
    (λ one. ⊎_elim (λ none. absurd (omega (arith, none.1))) (λ is. inl is) (Contains-push_cases [] x y one))
    (λ rest. inr rest) (Contains-append_cases (x ∷ []) xs y h)

pub Contains-first : {X : Type 0} → (x : X) (xs : List X) → Contains (x ∷ xs) x
Contains-first x xs = Contains-append_left (x ∷ []) xs x (Contains-push [] x)

pub Contains-rest : {X : Type 0} → (x : X) (xs : List X) (y : X) → Contains xs y → Contains (x ∷ xs) y
Contains-rest x xs y h = Contains-append_right (x ∷ []) xs y h

-- the one between others
pub Contains-middle : {X : Type 0} → (before : List X) (x : X) (later : List X) → Contains (before ++ x ∷ later) x
Contains-middle before x later = Contains-append_right before (x ∷ later) x (Contains-first x later)

-- what a filter keeps
pub Contains-filter : {X : Type 0} → (p : X → Bool) (xs : List X) (x : X) → Contains xs x → p x ≡ true
    → Contains (filter p xs) x
Contains-filter p [] x at is = absurd (Contains-none x at)
Contains-filter p (y ∷ ys) x at is =
    ⊎_elim
    (λ same. subst (λ b. Contains (cond b (y ∷ filter p ys) (filter p ys)) x) (sym (ap p same ∙ is))
    (subst (λ z. Contains (y ∷ filter p ys) z) same (Contains-first y (filter p ys))))
    (λ rest. go (p y) (Contains-filter p ys x rest is)) (Contains-cases y ys x at)
  where
    go : (b : Bool) → Contains (filter p ys) x → Contains (cond b (y ∷ filter p ys) (filter p ys)) x
    go true h = Contains-rest y (filter p ys) x h
    go false h = h

pub or_left : (a b : Bool) → a ≡ true → a || b ≡ true
or_left a b h = ap (λ x. x || b) h

pub or_right : (a b : Bool) → b ≡ true → a || b ≡ true
or_right true b h = refl
or_right false b h = h

pub or_cases : (a b : Bool) → a || b ≡ true → (a ≡ true) ⊎ (b ≡ true)
or_cases true b h = inl refl
or_cases false b h = inr h

pub neither : (a b : Bool) → a || b ≡ false → (a ≡ false) × (b ≡ false)
neither true b h = cc
neither false b h = (refl, h)

-- an item of which a test holds
pub any_of : {X : Type 0} → (p : X → Bool) (xs : List X) (x : X) → Contains xs x → p x ≡ true → list_any p xs ≡ true
any_of p [] x at is = absurd (Contains-none x at)
any_of p (y ∷ ys) x at is =
    ⊎_elim (λ same. or_left (p y) (list_any p ys) (ap p same ∙ is))
    (λ rest. or_right (p y) (list_any p ys) (any_of p ys x rest is)) (Contains-cases y ys x at)

pub record One {X : Type 0} (p : X → Bool) (xs : List X) : Type 0 where
  pub item : X
  pub among : Contains xs item
  pub holds : p item ≡ true

pub one_of : {X : Type 0} → (p : X → Bool) (xs : List X) → list_any p xs ≡ true → One p xs
one_of p [] h = cc
one_of p (y ∷ ys) h =
    ⊎_elim (λ here. record { item = y; among = Contains-first y ys; holds = here })
    (λ there. let more : One p ys = one_of p ys there in record {
      item = more.item;
      among = Contains-rest y ys more.item more.among;
      holds = more.holds;
    }) (or_cases (p y) (list_any p ys) h)

-- a test that holds of none
pub none_of : {X : Type 0} → (p : X → Bool) (xs : List X) (x : X) → list_any p xs ≡ false → Contains xs x
    → p x ≡ false
none_of p [] x h at = absurd (Contains-none x at)
none_of p (y ∷ ys) x h at =
    let both = neither (p y) (list_any p ys) h in
    ⊎_elim (λ same. ap p (sym same) ∙ both.0) (λ rest. none_of p ys x both.1 rest) (Contains-cases y ys x at)
