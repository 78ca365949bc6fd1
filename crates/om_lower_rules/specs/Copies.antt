-- The firstprivate copies of a region.
use Rattle.std.specs.Prelude.{◌≡◌, ◌++◌, ℕ, IfOk, List, OnOk, Result, Vec, map}
use Rattle.std.specs.List.{flat_map}
use Rattle.std.specs.declared.alloc.Global.{Global}
use Rattle.om_scope_tree.specs.declared.resolved.Capture.{Capture}
use Rattle.om_scope_tree.specs.declared.resolved.ResolvedClause.{ResolvedClause}
use Rattle.om_scope_tree.specs.ResolvedView as view
use Rattle.om_lower_rules.specs.Slots as rows
use Rattle.om_lower_rules.specs.declared.copies.FirstCopy.{FirstCopy}

abbrev pub first_copy : FirstCopy → rows.FirstCopy
first_copy copy = record { variable = copy.variable; original = copy.original }

abbrev pub first_copies_of : List FirstCopy → List rows.FirstCopy
first_copies_of copies = map first_copy copies

-- the variables of copies
abbrev pub copied_variables : List rows.FirstCopy → List ℕ
copied_variables copies = map (λ copy. copy.variable) copies

-- the copies of clauses that begin with their originals' values
abbrev pub clauses_first : List ResolvedClause → List rows.FirstCopy
clauses_first clauses = flat_map rows.clause_first (map view.clause clauses)

-- the copies of a region, by its clauses and by what it takes
abbrev pub first_copies_in : List ResolvedClause → List Capture → List rows.FirstCopy
first_copies_in clauses captures = rows.first_copies (map view.clause clauses) captures

-- among these the copy whose variable this is, if there is one
abbrev pub first_copy_in : List FirstCopy → (variable : ℕ) → List rows.FirstCopy
first_copy_in copies variable = rows.first_copy_at (first_copies_of copies) variable

-- a function adds these copies behind those that are there, unless memory runs out
abbrev pub AddsCopies : {T E : Type 0} → Result T E → List rows.FirstCopy → (old new : Vec FirstCopy Global) → Type 0
AddsCopies result added old new = OnOk result (first_copies_of new.items ≡ first_copies_of old.items ++ added)

-- a function gives these copies by the slots that their variables have in a body, unless memory runs out
abbrev pub GivesCopies : {E : Type 0} → Result (Vec FirstCopy Global) E → (slots : List ℕ) → List rows.FirstCopy → Type 0
GivesCopies result slots copies = IfOk result (λ made. first_copies_of made.items ≡ rows.by_slots slots copies)

-- a function gives the slots that these variables have in a body, unless memory runs out
abbrev pub GivesSlots : {E : Type 0} → Result (List ℕ) E → (slots : List ℕ) → (variables : List ℕ) → Type 0
GivesSlots result slots variables = IfOk result (λ numbers. numbers ≡ map (rows.slot_of slots) variables)
