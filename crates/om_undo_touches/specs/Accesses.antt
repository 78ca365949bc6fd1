-- The accesses of a step, as its record and the lists of touches keep them.
use Rattle.std.specs.Prelude.{ℕ, List, [], ◌∷◌, ◌++◌}
use Rattle.om_foot.specs.declared.object.Obj.TheVariants as object
use Rattle.om_foot.specs.declared.footprint.Mode.TheVariants as mode
use Rattle.om_foot.specs.declared.footprint.Access.{Access}
use Rattle.om_foot.specs.Cells.{cells_listed}
use Rattle.om_foot.specs.declared.object.Cells.{Cells}
use Rattle.om_undo_touches.specs.declared.accesses.Forms.{Forms}
use Rattle.om_undo_touches.specs.declared.accesses.Forms.TheVariants as forms

-- the worker whose control is written; then single accesses, then cells that are named at once, then single accesses
-- again
pub record Parts : Type 0 where
  pub worker : ℕ
  pub first : List Access
  pub cells : List Cells
  pub last : List Access

-- the write of a worker's control
abbrev pub control_write : ℕ → Access
control_write w = record { object = object.Control w; mode = mode.Write }

abbrev pub accesses_of : Parts → List Access
accesses_of p = control_write p.worker ∷ (p.first ++ (cells_listed p.cells ++ p.last))

abbrev pub parts_in : Forms → Parts
parts_in (forms.Nothing w) = record { worker = w; first = []; cells = []; last = [] }
parts_in (forms.One w x) = record { worker = w; first = x ∷ []; cells = []; last = [] }
parts_in (forms.Parts w p) =
    record { worker = w; first = p.value.first; cells = p.value.cells; last = p.value.last }
