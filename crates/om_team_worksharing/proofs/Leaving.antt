-- Where a member has a context to go back to, or needs none, its task can end.
use Rattle.std.proofs.Common.{◌≡◌, refl, ℕ, zero, suc, List, [], ◌∷◌, map}
use Rattle.std.specs.declared.boxed.Box.{Box}
use Rattle.std.specs.declared.alloc.Global.{Global}
use Rattle.om_code.specs.declared.raw.Slot.{Slot}
use Rattle.om_state.specs.declared.control.Context as plain_contexts
use Rattle.om_state.specs.declared.control.Kind.TheVariants.{Implicit}
use Rattle.om_memory.specs.declared.control.Context.{Context}
use Rattle.om_memory.specs.Plain.{plain_held}
use Rattle.om_team_serial.specs.Objects.{own_cells}
use Rattle.om_team_worksharing.specs.Rows.{left_row, leave_row}

pub above_another : (worker : ℕ) (c : plain_contexts.Context) (below : List (Box Context Global)) (slots : List Slot)
    (number : ℕ) → (below ≡ [] → ⊥) → leave_row worker c (map plain_held below) slots Implicit number
    ≡ left_row worker c (map plain_held below) (own_cells c slots)
above_another worker c [] slots number h = absurd (h refl)
above_another worker c (b ∷ below) slots number h = refl

pub not_the_first : (worker : ℕ) (c : plain_contexts.Context) (below : List (Box Context Global)) (slots : List Slot)
    (number : ℕ) → (number ≡ 0 → ⊥) → leave_row worker c (map plain_held below) slots Implicit number
    ≡ left_row worker c (map plain_held below) (own_cells c slots)
not_the_first worker c below slots zero h = absurd (h refl)
not_the_first worker c [] slots (suc n) h = refl
not_the_first worker c (b ∷ below) slots (suc n) h = refl
