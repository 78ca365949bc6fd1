-- The rules of every program are shaped.
use Rattle.std.proofs.Common.{◌≡◌, subst, List, [], ◌∷◌}
use Rattle.om_foot.specs.declared.footprint.Access.{Access}
use Rattle.om_state.specs.declared.control.Control as controls
use Rattle.om_state.specs.declared.control.Edit.TheVariants.{Fail}
use Rattle.om_state.specs.declared.step.Label.{Label}
use Rattle.om_state.specs.declared.step.Outcome.TheVariants.{Updates}
use Rattle.om_state.specs.declared.step.Update.{Update}
use Rattle.om_state.specs.declared.step.Update.TheVariants.{Put}
use Rattle.om_state.specs.declared.value.Val.TheVariants as value
use Rattle.om_state.specs.Edits.{changed}
use Rattle.om_state.specs.Rules.{control_access}
use Rattle.om_state.specs.Values.{control_in}
use Rattle.om_team_serial.specs.declared.row.Row.{Row}
use Rattle.om_team_serial.specs.declared.row.Row.TheVariants as row
use Rattle.om_task.specs.Rules.{further_in, row_in, outcome_after}
use Rattle.om_task.specs.Shapes.{AreShaped, PutCells, ShapedRules}
use Rattle.om_task.proofs.CellPuts.{RowPutsCells}
use Rattle.om_task.proofs.NoControls.{RowShaped}
use Rattle.om_task.proofs.ShapedRows.{row_shaped, row_puts_cells}

-- no update is shaped along any footprint
nothing_shaped : (names : List Access) → AreShaped names []
nothing_shaped [] = tt
nothing_shaped (a ∷ names) = tt

-- the worker's own control comes first, and a control is put there; the rest is the row's
outcome_shaped : (l : Label) (c : controls.Control) (names : List Access) (r : Row) (us : List Update)
    → RowShaped names r → outcome_after c r ≡ Updates us → AreShaped (control_access l ∷ names) us
outcome_shaped l c names (row.Goes edits ws) us h e = let same : Put (value.Control (changed edits c)) ∷ ws ≡ us = cc in
    subst (AreShaped (control_access l ∷ names)) same (tt, h)
outcome_shaped l c names (row.Faults f) us h e = let same : Put (value.Control (changed (Fail f ∷ []) c)) ∷ []
    ≡ us = cc in subst (AreShaped (control_access l ∷ names)) same (tt, nothing_shaped names)
outcome_shaped l c names (row.Blocked b) us h e = cc
outcome_shaped l c names row.Lacks us h e = cc

nothing_put : (names : List Access) → PutCells names []
nothing_put [] = tt
nothing_put (a ∷ names) = tt

-- so is what it puts at cells
outcome_puts : (l : Label) (c : controls.Control) (names : List Access) (r : Row) (us : List Update)
    → RowPutsCells names r → outcome_after c r ≡ Updates us → PutCells (control_access l ∷ names) us
outcome_puts l c names (row.Goes edits ws) us h e = let same : Put (value.Control (changed edits c)) ∷ ws ≡ us = cc in
    subst (PutCells (control_access l ∷ names)) same (tt, h)
outcome_puts l c names (row.Faults f) us h e = let same : Put (value.Control (changed (Fail f ∷ []) c)) ∷ []
    ≡ us = cc in subst (PutCells (control_access l ∷ names)) same (tt, nothing_put names)
outcome_puts l c names (row.Blocked b) us h e = cc
outcome_puts l c names row.Lacks us h e = cc

pub shaped_rules : ShapedRules
shaped_rules program workers = record {
  shaped = λ l v read us. outcome_shaped l (control_in v) (further_in program workers l (control_in v))
      (row_in program workers l (control_in v) read) us (row_shaped program workers l (control_in v) read);
  cells = λ l v read us. outcome_puts l (control_in v) (further_in program workers l (control_in v))
      (row_in program workers l (control_in v) read) us (row_puts_cells program workers l (control_in v) read);
}
