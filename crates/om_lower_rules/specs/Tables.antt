-- Numbers by order of first sight: a table has each different thing of a list once, and a thing's number is
-- how many stand before it.
use Rattle.std.specs.Prelude.{ℕ, ◌+◌, List, [], ◌∷◌, ◌++◌, Bool, fold, if◌then◌else◌, Option, None, Some}
use Rattle.std.specs.List.{list_any}

-- behind one more thing
abbrev pub with_sight : {A : Type 0} → (A → A → Bool) → List A → A → List A
with_sight same table x = if list_any (same x) table then table else table ++ x ∷ []

-- the different things of a list, in the order of their first sights
abbrev pub table_of : {A : Type 0} → (A → A → Bool) → List A → List A
table_of same sights = fold (with_sight same) [] sights

-- how many stand before the first that is this one
abbrev pub number_in : {A : Type 0} → (A → Bool) → List A → ℕ
number_in is [] = 0
number_in is (x ∷ rest) = if is x then 0 else number_in is rest + 1

-- the number of a thing that is there
abbrev pub found_in : {A : Type 0} → (A → Bool) → List A → Option ℕ
found_in is table = if list_any is table then Some (number_in is table) else None
