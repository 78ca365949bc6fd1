-- How many cells a variable has, by a table that has each variable once.
use Rattle.std.proofs.Common.{◌≡◌, ℕ, Bool, true, false, cond, ◌||◌, List, [], ◌∷◌, ◌++◌, Option, None, Some, nat_eq}
use Rattle.std.proofs.Common.{if◌then◌else◌, is_some, refl, ap, ◌∙◌, arith}
use Rattle.std.proofs.lemmas.List.{map-append}
use Rattle.std.specs.List.{list_any}
use Rattle.std.specs.Map.{lookup}
use Rattle.std.specs.Option.{unwrap_or}
use Rattle.om_lower_rules.specs.Slots.{Extent, cells_in}
use Rattle.om_lower_rules.specs.Extents.{extent_at, extents_in, is_extent_of, with_extent}

eq-comm : (a b : ℕ) → nat_eq a b ≡ nat_eq b a
eq-comm a b = grind arith

-- a look-up in the table's entries
pub cells_found : (variable : ℕ) (entries : List (ℕ × ℕ)) → unwrap_or (lookup (nat_eq variable) entries) 1
    ≡ cells_in (extents_in entries) variable
cells_found variable [] = refl
cells_found variable (entry ∷ entries) =
    by (nat_eq variable entry.0) (cells_found variable entries)
    ∙ ap (λ found. if found then entry.1 else cells_in (extents_in entries) variable) (eq-comm variable entry.0)
  where
    by : (found : Bool) → unwrap_or (lookup (nat_eq variable) entries) 1 ≡ cells_in (extents_in entries) variable
        → unwrap_or (cond found (Some entry.1) (lookup (nat_eq variable) entries)) 1
        ≡ (if found then entry.1 else cells_in (extents_in entries) variable)
    by true rest = refl
    by false rest = rest

-- whether it is there
pub there : (variable : ℕ) (entries : List (ℕ × ℕ)) → list_any (is_extent_of variable) (extents_in entries)
    ≡ is_some (lookup (nat_eq variable) entries)
there variable [] = refl
there variable (entry ∷ entries) = by (nat_eq variable entry.0) (there variable entries)
  where
    by : (found : Bool) → list_any (is_extent_of variable) (extents_in entries)
        ≡ is_some (lookup (nat_eq variable) entries)
        → (found || list_any (is_extent_of variable) (extents_in entries))
        ≡ is_some (cond found (Some entry.1) (lookup (nat_eq variable) entries))
    by true rest = refl
    by false rest = rest

-- a variable that is known
pub noted_known : (extents : List Extent) (extent : Extent) → list_any (is_extent_of extent.variable) extents ≡ true
    → extents ≡ with_extent extents extent
noted_known extents extent known = rw known refl

-- and one that is not
pub noted_new : (entries : List (ℕ × ℕ)) (variable cells : ℕ) → list_any (is_extent_of variable)
    (extents_in entries) ≡ false
    → extents_in (entries ++ (variable, cells) ∷ []) ≡ with_extent (extents_in entries)
    (record { variable = variable; cells = cells })
noted_new entries variable cells unknown = rw unknown (map-append extent_at entries ((variable, cells) ∷ []))

pub none-is_some : {A : Type 0} (x : Option A) → is_some x ≡ false → x ≡ None
none-is_some None e = refl
none-is_some (Some x) e = cc
