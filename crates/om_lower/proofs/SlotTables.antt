-- The slots of a frame.
use Rattle.std.proofs.Common.{◌≡◌, ℕ, List, [], ◌∷◌, map, refl, ap, ◌∙◌}
use Rattle.om_scope_tree.specs.declared.resolved.Capture.{Capture}
use Rattle.om_lower_rules.specs.Slots.{Extent, cells_in, slot_with, source_of}

-- two tables in which each variable has as many cells
pub slots_same : (one other : List Extent) (outer : List ℕ) (captures : List Capture) (variables : List ℕ)
    → ((variable : ℕ) → cells_in one variable ≡ cells_in other variable)
    → map (slot_with one outer captures) variables ≡ map (slot_with other outer captures) variables
slots_same one other outer captures [] same = refl
slots_same one other outer captures (variable ∷ rest) same =
    ap (λ cells. record { cells = cells; source = source_of outer captures variable } ∷ map
    (slot_with one outer captures) rest) (same variable)
    ∙ ap (λ slots. slot_with other outer captures variable ∷ slots)
    (slots_same one other outer captures rest same)
