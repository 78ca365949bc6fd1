-- How many cells a variable has, in a table that has each variable once.
use Rattle.std.proofs.Common.{◌≡◌, ℕ, Bool, true, false, ◌||◌, List, [], ◌∷◌, ◌++◌, nat_eq, if◌then◌else◌, subst, refl}
use Rattle.std.proofs.Common.{sym, ap, ◌∙◌, arith}
use Rattle.std.proofs.lemmas.List.{append-nil, append_assoc}
use Rattle.std.proofs.lemmas.Bool.{eqb-true}
use Rattle.std.specs.List.{list_any}
use Rattle.om_lower_rules.specs.Slots.{Extent, cells_in}
use Rattle.om_lower_rules.specs.Extents.{is_extent_of, measured}

eq-comm : (a b : ℕ) → nat_eq a b ≡ nat_eq b a
eq-comm a b = grind arith

eq-same : (a b : ℕ) → nat_eq a b ≡ true → a ≡ b
eq-same a b e = eqb-true a b e

found_at : (found : Bool) (cells : ℕ) (rest : Bool) (a b : ℕ) → (found || rest) ≡ true → (rest ≡ true → a ≡ b)
    → (if found then cells else a) ≡ (if found then cells else b)
found_at true cells rest a b known same = refl
found_at false cells rest a b known same = same known

-- what a look-up finds first does not depend on what comes behind
first_found : (variable : ℕ) (before after more : List Extent) → list_any (is_extent_of variable) before ≡ true
    → cells_in (before ++ after) variable ≡ cells_in (before ++ more) variable
first_found variable [] after more known = cc
first_found variable (first ∷ rest) after more known =
    found_at (nat_eq first.variable variable) first.cells (list_any (is_extent_of variable) rest) _ _
    (ap (λ found. found || list_any (is_extent_of variable) rest) (eq-comm first.variable variable) ∙ known)
    (first_found variable rest after more)

-- what a look-up does not find at once it finds behind
passed : (extent : Extent) (after : List Extent) (variable : ℕ) (before : List Extent) → nat_eq extent.variable
    variable ≡ false
    → cells_in (before ++ extent ∷ after) variable ≡ cells_in (before ++ after) variable
passed extent after variable [] other = ap (λ found. if found then extent.cells else cells_in after variable) other
passed extent after variable (first ∷ rest) other =
    ap (λ cells. if nat_eq first.variable variable then first.cells else cells) (passed extent after variable rest
    other)

known_again : (before : List Extent) (extent : Extent) (after : List Extent) (variable : ℕ)
    → list_any (is_extent_of extent.variable) before ≡ true
    → (same : Bool) → nat_eq extent.variable variable ≡ same → cells_in (before ++ extent ∷ after) variable
    ≡ cells_in (before ++ after) variable
known_again before extent after variable known false e = passed extent after variable before e
known_again before extent after variable known true e =
    first_found variable before (extent ∷ after) after (subst (λ v. list_any (is_extent_of v) before ≡ true)
    (eq-same extent.variable variable e) known)

-- each variable once, or as it was declared: a look-up finds the same
cells_behind : (declared before : List Extent) (variable : ℕ) → cells_in (measured before declared) variable
    ≡ cells_in (before ++ declared) variable
cells_behind [] before variable = ap (λ extents. cells_in extents variable) (sym (append-nil before))
cells_behind (extent ∷ declared) before variable = step (cells_behind declared)
    (list_any (is_extent_of extent.variable) before) refl
  where
    step : ((before : List Extent) (variable : ℕ) → cells_in (measured before declared) variable
        ≡ cells_in (before ++ declared) variable)
        → (known : Bool) → list_any (is_extent_of extent.variable) before ≡ known
        → cells_in (measured (if known then before else before ++ extent ∷ []) declared) variable
        ≡ cells_in (before ++ extent ∷ declared) variable
    step rest true known = rest before variable ∙ sym (known_again before extent declared variable known
        (nat_eq extent.variable variable) refl)
    step rest false known = rest (before ++ extent ∷ []) variable ∙ ap (λ all. cells_in all variable)
        (append_assoc before (extent ∷ []) declared)

pub cells_measured : (extents declared : List Extent) → extents ≡ measured [] declared → (variable : ℕ)
    → cells_in extents variable ≡ cells_in declared variable
cells_measured extents declared same variable = ap (λ all. cells_in all variable) same ∙ cells_behind declared []
    variable
