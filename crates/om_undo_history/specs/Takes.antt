-- For proofs: a change that is made, with its small record, and a record that is taken out.
use Rattle.std.specs.Prelude.{◌≡◌, ℕ, List, ◌∷◌, drop}
use Rattle.om_foot.specs.declared.object.Obj.TheVariants as obj
use Rattle.om_foot.specs.declared.footprint.Mode.TheVariants as mode
use Rattle.om_foot.specs.declared.footprint.Access.{Access}
use Rattle.om_state.specs.declared.control.Edit.{Edit}
use Rattle.om_state.specs.declared.value.Val.TheVariants as value
use Rattle.om_state.specs.declared.step.Change.{Change}
use Rattle.om_state.specs.declared.step.Entry.{Entry}
use Rattle.om_state.specs.declared.step.Update.{Update}
use Rattle.om_state.specs.declared.step.Update.TheVariants.{Put}
use Rattle.om_state.specs.Edits.{changed, HaveRoom}
use Rattle.om_state.specs.Values.{control_in}
use Rattle.om_state.specs.State.{State}
use Rattle.om_memory.specs.declared.memory.Memory.{Memory}
use Rattle.om_memory.specs.Memories.{state_of, pasts_of}
use Rattle.om_undo_history.specs.declared.records.UndoRecord.{UndoRecord}
use Rattle.om_undo_history.specs.Records.{HasRoom}
use Rattle.om_undo_history.specs.Bounds.{FitsAll}
use Rattle.om_undo_history.specs.Shapes.{AreShaped}
use Rattle.om_undo_history.specs.Fills.{control_at, small_record, marked_back, CanTakeBack}

-- the updates of a step: the control that these edits make of its worker's is put there, and the others follow
abbrev pub updates_by : ℕ → List Edit → List Update → State → List Update
updates_by w es us s = Put (value.Control (changed es (control_in (s (obj.Control w))))) ∷ us

-- the first access is a `Write` of this worker's control
abbrev pub IsOwn : ℕ → List Access → Type 0
IsOwn w footprint = footprint ≡ control_at w mode.Write ∷ drop 1 footprint

-- a step of these edits and updates can be made at a state
pub record CanMake (w : ℕ) (footprint : List Access) (es : List Edit) (us : List Update) (s : State) : Type 0 where
  pub own : IsOwn w footprint
  pub room : HaveRoom es (control_in (s (obj.Control w)))
  pub fits : FitsAll footprint (updates_by w es us s) s
  pub shaped : AreShaped footprint (updates_by w es us s)

-- the small record of a change, without the mark of its worker's control
abbrev pub small_for : Entry → Change → State → UndoRecord
small_for e c s = record {
  entry = e;
  footprint = c.footprint;
  back = drop 1 (small_record c.footprint (updates_by e.worker c.edits c.updates s) s);
}

-- a record can be taken out of a store
pub record CanLeave (store : Memory) (k : UndoRecord) : Type 0 where
  pub own : IsOwn k.entry.worker k.footprint
  pub room : HasRoom store k
  pub can : CanTakeBack k.footprint (marked_back k) (state_of store) (pasts_of store)
