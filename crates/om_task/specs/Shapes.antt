-- What a step puts at the controls of workers and at the cells of variables: controls, and cells.
use Rattle.std.specs.Prelude.{◌≡◌, ℕ, Bool, true, false, List, ◌∷◌}
use Rattle.om_foot.specs.declared.object.Obj.{Obj}
use Rattle.om_foot.specs.declared.object.Obj.TheVariants as obj
use Rattle.om_foot.specs.declared.footprint.Mode.{Mode}
use Rattle.om_foot.specs.declared.footprint.Mode.TheVariants as mode
use Rattle.om_foot.specs.declared.footprint.Access.{Access}
use Rattle.om_code.specs.declared.raw.Raw.{Raw}
use Rattle.om_state.specs.declared.step.Label.{Label}
use Rattle.om_state.specs.declared.step.Outcome.TheVariants.{Updates}
use Rattle.om_state.specs.declared.step.Update.{Update}
use Rattle.om_state.specs.declared.step.Update.TheVariants.{Put}
use Rattle.om_state.specs.declared.value.Val.{Val}
use Rattle.om_state.specs.declared.value.Val.TheVariants as value
use Rattle.om_state.specs.Rules.{Rules, control_access}
use Rattle.om_task.specs.Rules.{rules_of}

-- the first of the next four is that of om_memory Memories, by cases; the others are those of om_undo_history Shapes
-- once more, since neither om_task nor om_undo_history depends on the other

-- whether an object is a worker's control
abbrev pub is_trailed : Obj → Bool
is_trailed (obj.Control worker) = true
is_trailed _ = false

-- a value that is put at a control is a control
abbrev pub IsControl : Val → Bool → Type 0
IsControl (value.Control control) trailed = Unit {0}
IsControl v true = ⊥
IsControl v false = Unit {0}

-- at a write of a control the update puts a control, and none is added to
abbrev pub IsShapedAt : Mode → Update → Bool → Type 0
IsShapedAt mode.Write (Put v) trailed = IsControl v trailed
IsShapedAt mode.Write u true = ⊥
IsShapedAt mode.Add u true = ⊥
IsShapedAt _ _ _ = Unit {0}

-- so it is along a footprint
abbrev pub AreShaped : List Access → List Update → Type 0
AreShaped (a ∷ rest) (u ∷ us) = IsShapedAt a.mode u (is_trailed a.object) × AreShaped rest us
AreShaped _ _ = Unit {0}

-- whether an object is a cell of a variable
abbrev pub is_cell : Obj → Bool
is_cell (obj.Cell task frame slot index) = true
is_cell (obj.Global variable index) = true
is_cell _ = false

-- a value that is put at a cell is a cell
abbrev pub IsCell : Val → Bool → Type 0
IsCell (value.Cell cell) is_one = Unit {0}
IsCell v true = ⊥
IsCell v false = Unit {0}

-- what an update puts there, if anything, is a cell
abbrev pub PutsCell : Update → Bool → Type 0
PutsCell (Put v) is_one = IsCell v is_one
PutsCell u is_one = Unit {0}

-- so it is along a footprint
abbrev pub PutCells : List Access → List Update → Type 0
PutCells (a ∷ rest) (u ∷ us) = PutsCell u (is_cell a.object) × PutCells rest us
PutCells _ _ = Unit {0}

-- rules whose steps write nothing but controls at controls, add to none, and put nothing but cells at cells
pub record IsShapely (r : Rules) : Type 0 where
  pub shaped : (l : Label) (control : Val) (read : List Val) (us : List Update) → r.outcome l (control ∷ read)
      ≡ Updates us → AreShaped (control_access l ∷ r.further l control) us
  pub cells : (l : Label) (control : Val) (read : List Val) (us : List Update) → r.outcome l (control ∷ read)
      ≡ Updates us → PutCells (control_access l ∷ r.further l control) us

abbrev pub ShapedRules : Type 0
ShapedRules = (program : Raw) (workers : ℕ) → IsShapely (rules_of program workers)
