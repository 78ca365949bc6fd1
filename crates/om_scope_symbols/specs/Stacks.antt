-- Names, each with the items that are noted for it, the innermost last.
use Rattle.std.specs.Prelude.{◌≡◌, ℕ, ◌-◌, List, [], ◌∷◌, ◌++◌, Option, None, Some, Vec, if◌then◌else◌, length, map}
use Rattle.std.specs.Prelude.{take}
use Rattle.std.specs.Option.{option_or}
use Rattle.std.specs.Str.{bytes_eq}
use Rattle.std.specs.declared.alloc.Global.{Global}

abbrev pub table_of : {A : Type 0} → List (Vec ℕ Global × Vec A Global) → List (List ℕ × List A)
table_of entries = map (λ entry. (entry.0.items, entry.1.items)) entries

-- those of a name
abbrev pub seen_in : {A : Type 0} → List (List ℕ × List A) → List ℕ → List A
seen_in [] name = []
seen_in (entry ∷ entries) name = if bytes_eq name entry.0 then entry.1 else seen_in entries name

abbrev pub innermost_of : {A : Type 0} → List A → Option A
innermost_of [] = None
innermost_of (item ∷ inner) = option_or (innermost_of inner) (Some item)

abbrev pub without_innermost : {A : Type 0} → List A → List A
without_innermost seen = take (length seen - 1) seen

-- with one more, which is the innermost
abbrev pub with_innermost : {A : Type 0} → A → List A → List A
with_innermost item seen = seen ++ item ∷ []

-- of a table, what is noted for this name changes so; for the others it stays
abbrev pub ChangedAt : {A : Type 0} → (List A → List A) → (before now : List (List ℕ × List A)) → (name : List ℕ) → Type 0
ChangedAt change before now name =
    (other : List ℕ) → seen_in now other ≡ (if bytes_eq other name then change (seen_in before other)
    else seen_in before other)

-- for each name it stays
abbrev pub Unchanged : {A : Type 0} → (before now : List (List ℕ × List A)) → Type 0
Unchanged before now = (other : List ℕ) → seen_in now other ≡ seen_in before other
