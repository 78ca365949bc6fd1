-- What a step does that combines a copy of a reduction with its original (OpenMP API 5.2, section 5.5.8).
use Rattle.std.specs.Prelude.{◌≡◌, ℕ, ℤ, true, Ok}
use Rattle.om_foot.specs.declared.object.Obj.{Obj}
use Rattle.om_code.specs.declared.frame.Cell.TheVariants as cell
use Rattle.om_code.specs.declared.instruction.Place.{Place}
use Rattle.om_code.specs.declared.instruction.Place.TheVariants as place
use Rattle.om_code.specs.declared.instruction.Reduction.{Reduction}
use Rattle.om_code.specs.Arithmetic.{combine}
use Rattle.om_state.specs.declared.control.Context.{Context}
use Rattle.om_state.specs.declared.value.Val.TheVariants as value
use Rattle.om_state.specs.State.{State}
use Rattle.om_state.specs.Values.{cell_in}
use Rattle.om_team_serial.specs.Objects.{object_of}
use Rattle.om_task.specs.Shapes.{is_cell}

-- from s to t, for the copy in this slot of a context
pub record Combines (s t : State) (c : Context) (r : Reduction) (copy : ℕ) (original : Place) : Type 0 where
  pub copied : ℤ
  pub was : ℤ
  pub now : ℤ
  -- both hold values, which are combined
  pub has_copy : cell_in (s (object_of c (place.Slot copy) 0)) ≡ cell.Int copied
  pub had : cell_in (s (object_of c original 0)) ≡ cell.Int was
  pub combined : combine r was copied ≡ Ok now
  -- what comes of it is put into the original, and no other variable changes
  pub put : t (object_of c original 0) ≡ value.Cell (cell.Int now)
  pub others : (q : Obj) → is_cell q ≡ true → (object_of c original 0 ≡ q → ⊥) → t q ≡ s q
