-- Where a frame waits, a return ends the running one.
use Rattle.std.proofs.Common.{◌≡◌, refl, List, [], ◌∷◌, Some, map}
use Rattle.std.specs.declared.boxed.Box.{Box}
use Rattle.std.specs.declared.alloc.Global.{Global}
use Rattle.om_code.specs.declared.frame.Operand.{Operand}
use Rattle.om_code.specs.declared.raw.Slot.{Slot}
use Rattle.om_state.specs.declared.control.Context.{Context}
use Rattle.om_state.specs.declared.control.Edit.TheVariants.{EndFrame}
use Rattle.om_memory.specs.declared.control.Frame.{Frame}
use Rattle.om_memory.specs.Plain.{plain_box}
use Rattle.om_team_serial.specs.declared.row.Row.TheVariants.{Goes}
use Rattle.om_team_serial.specs.Objects.{own_cells, deaths}
use Rattle.om_team_serial.specs.SerialRows.{return_row}

pub gives : (k : Context) (slots : List Slot) (fs : List (Box Frame Global)) (v : Operand) → (fs ≡ [] → ⊥)
    → return_row k slots (map plain_box fs) (Some v)
    ≡ record { names = own_cells k slots; row = λ _. Goes (EndFrame v ∷ []) (deaths (own_cells k slots)) }
gives k slots [] v h = absurd (h refl)
gives k slots (f ∷ fs) v h = refl
