-- For proofs: what contracts promise of a store before and after. That is which updates are made or taken back, and
-- what the trails and the small records hold then. `Makes..` and `Takes..Back` speak of the state, `Notes..` and
-- `Pops..` of the trails, `Saves..` of small records.
use Rattle.std.specs.Prelude.{◌≡◌, ℕ, List, [], ◌∷◌, ◌++◌, take, drop}
use Rattle.om_foot.specs.declared.object.Obj.{Obj}
use Rattle.om_foot.specs.declared.object.Obj.TheVariants as obj
use Rattle.om_foot.specs.declared.object.Cells.{Cells}
use Rattle.om_foot.specs.declared.footprint.Mode.TheVariants.{Write, Add}
use Rattle.om_foot.specs.declared.footprint.Access.{Access}
use Rattle.om_foot.specs.Cells.{cells_listed}
use Rattle.om_code.specs.declared.frame.Cell as cells
use Rattle.om_state.specs.declared.control.Control.{Control}
use Rattle.om_state.specs.declared.control.Edit.{Edit}
use Rattle.om_state.specs.declared.value.Run.{Run}
use Rattle.om_state.specs.declared.value.Was.{Was}
use Rattle.om_state.specs.declared.step.Change.{Change}
use Rattle.om_state.specs.declared.step.Entry.{Entry}
use Rattle.om_state.specs.declared.step.Update.{Update}
use Rattle.om_state.specs.declared.step.Update.TheVariants.{Put}
use Rattle.om_state.specs.declared.value.Val.TheVariants as value
use Rattle.om_state.specs.Runs.{runs_listed}
use Rattle.om_state.specs.State.{undo_of, state_after, state_before, updated, undo_record, taken_back}
use Rattle.om_state.specs.Values.{control_in}
use Rattle.om_memory.specs.declared.memory.Memory.{Memory}
use Rattle.om_memory.specs.Memories.{state_of, pasts_of}
use Rattle.om_undo_touches.specs.Accesses.{Parts, accesses_of}
use Rattle.om_undo_history.specs.declared.kept.BackParts.{BackParts}
use Rattle.om_undo_history.specs.declared.kept.Backs.{Backs}
use Rattle.om_undo_history.specs.declared.planning.Making.{Making}
use Rattle.om_undo_history.specs.declared.records.UndoRecord.{UndoRecord}
use Rattle.om_undo_history.specs.Backs.{backs_listed, back_in, wanted, parts_wanted, parts_back, further_of}
use Rattle.om_undo_history.specs.Bounds.{FitsAll, FitsAtBack}
use Rattle.om_undo_history.specs.Fills.{small_at, noted, small_record, noted_all, filled_at, filled, popped_all}
use Rattle.om_undo_history.specs.Fills.{full, before, CanTakeBack}
use Rattle.om_undo_history.specs.Takes.{updates_by, small_for, CanMake}

-- a worker's control in a store
abbrev pub control_of : ℕ → Memory → Control
control_of w store = control_in (state_of store (obj.Control w))

-- one update

-- an access that writes an object
abbrev pub write_at : Obj → Access
write_at o = record { object = o; mode = Write }

-- one that adds to it
abbrev pub add_at : Obj → Access
add_at o = record { object = o; mode = Add }

-- an update is made
abbrev pub MakesAt : Access → Update → Memory → Memory → Type 0
MakesAt a u old new = state_of new ≡ state_after a u (state_of old)

-- the trails note the control before it, where it puts one
abbrev pub NotesAt : Access → Update → Memory → Memory → Type 0
NotesAt a u old new = pasts_of new ≡ noted a u (state_of old) (pasts_of old)

-- what a small record holds of an update that is made in a store
abbrev pub small_in : Access → Update → Memory → Update
small_in a u store = small_at a u (state_of store)

-- what takes an update back that is made in a store
abbrev pub undo_in : Access → Update → Memory → Update
undo_in a u store = undo_of a.mode u (state_of store a.object)

-- an update is taken back
abbrev pub TakesBackAt : Access → Update → Memory → Memory → Type 0
TakesBackAt a u old new = state_of new ≡ state_before a u (state_of old)

-- what a small record's update stands for in a store
abbrev pub filled_in : Access → Update → Memory → Update
filled_in a small store = filled_at a small (pasts_of store)

-- what a small record's update stands for is taken back
abbrev pub TakesSmallBack : Access → Update → Memory → Memory → Type 0
TakesSmallBack a small old new = TakesBackAt a (filled_in a small old) old new

-- the count that an update of a small record adds to fits in its type when the update is taken back
abbrev pub FitsBackIn : Access → Update → Memory → Type 0
FitsBackIn a small store = FitsAtBack a.mode (filled_in a small store) (state_of store a.object)

-- all updates of a footprint are made
abbrev pub MakesAll : List Access → List Update → Memory → Memory → Type 0
MakesAll footprint us old new = state_of new ≡ updated footprint us (state_of old)

-- the trails note the controls before them
abbrev pub NotesAll : List Access → List Update → Memory → Memory → Type 0
NotesAll footprint us old new = pasts_of new ≡ noted_all footprint us (state_of old) (pasts_of old)

-- these are what a small record holds of them, where they are made in a store
abbrev pub SavesAll : List Access → List Update → Memory → List Update → Type 0
SavesAll footprint us store small = small ≡ small_record footprint us (state_of store)

-- all can be taken back, by what a small record holds of them
abbrev pub CanTakeAllBack : List Access → List Update → Memory → Type 0
CanTakeAllBack footprint small store = CanTakeBack footprint small (state_of store) (pasts_of store)

-- all are taken back, by what a small record holds of them
abbrev pub TakesAllBack : List Access → List Update → Memory → Memory → Type 0
TakesAllBack footprint small old new =
    state_of new ≡ taken_back footprint (filled footprint small (pasts_of old)) (state_of old)

-- the trails have lost what the marks took
abbrev pub PopsAll : List Access → List Update → Memory → Memory → Type 0
PopsAll footprint small old new = pasts_of new ≡ popped_all footprint small (pasts_of old)

-- so many first updates can be taken back
abbrev pub CanTakeFirstBack : ℕ → List Access → List Update → Memory → Type 0
CanTakeFirstBack n footprint small store = CanTakeAllBack (take n footprint) (take n small) store

-- so many first updates are taken back
abbrev pub TakesFirstBack : ℕ → List Access → List Update → Memory → Memory → Type 0
TakesFirstBack n footprint small old new = TakesAllBack (take n footprint) (take n small) old new

-- the trails have lost what the marks of so many first updates took
abbrev pub PopsFirst : ℕ → List Access → List Update → Memory → Memory → Type 0
PopsFirst n footprint small old new = PopsAll (take n footprint) (take n small) old new

-- what takes the put of one cell back
abbrev pub put_of : cells.Cell → List Update
put_of cell = Put (value.Cell cell) ∷ []

-- the cells of slots

-- a run is put into the cells of each slot
abbrev pub PutsCells : List Cells → List Run → Memory → Memory → Type 0
PutsCells all runs old new = MakesAll (cells_listed all) (runs_listed runs) old new

-- these are what the cells were
abbrev pub WereCells : List Cells → List Run → Memory → List (List Was) → Type 0
WereCells all runs store were =
    backs_listed were ≡ undo_record (cells_listed all) (runs_listed runs) (state_of store)

-- the cells are put back to what they were
abbrev pub PutsCellsBack : List Cells → List (List Was) → Memory → Memory → Type 0
PutsCellsBack all were old new = state_of new ≡ taken_back (cells_listed all) (backs_listed were) (state_of old)

-- the counts fit that the updates behind a step's first access add to
abbrev pub FitsFurther : Parts → List Update → Memory → Type 0
FitsFurther footprint us store = FitsAll (further_of footprint) us (state_of store)

-- the updates behind the first access can be taken back, by what a small record holds of them
abbrev pub CanTakeFurtherBack : Parts → List Update → Memory → Type 0
CanTakeFurtherBack footprint small store = CanTakeAllBack (further_of footprint) small store

-- the updates behind the first access are taken back, by what a small record holds of them
abbrev pub TakesFurtherBack : Parts → List Update → Memory → Memory → Type 0
TakesFurtherBack footprint small old new = TakesAllBack (further_of footprint) small old new

-- the trails have lost what the marks behind the first access took
abbrev pub PopsFurther : Parts → List Update → Memory → Memory → Type 0
PopsFurther footprint small old new = PopsAll (further_of footprint) small old new

-- the updates behind the first access are made
abbrev pub MakesFurther : Parts → Backs → List Run → Memory → Memory → Type 0
MakesFurther footprint back runs old new = MakesAll (further_of footprint) (wanted back runs) old new

-- the trails note the controls before them
abbrev pub NotesFurther : Parts → Backs → List Run → Memory → Memory → Type 0
NotesFurther footprint back runs old new = NotesAll (further_of footprint) (wanted back runs) old new

-- this is what a small record holds of the updates behind the first access
abbrev pub SavesFurther : Parts → Backs → List Run → Memory → Backs → Type 0
SavesFurther footprint back runs store small =
    SavesAll (further_of footprint) (wanted back runs) store (back_in small)

-- those in parts are made
abbrev pub MakesParts : Parts → BackParts → List Run → Memory → Memory → Type 0
MakesParts footprint back runs old new = MakesAll (further_of footprint) (parts_wanted back runs) old new

-- the trails note the controls before them
abbrev pub NotesParts : Parts → BackParts → List Run → Memory → Memory → Type 0
NotesParts footprint back runs old new = NotesAll (further_of footprint) (parts_wanted back runs) old new

-- and what a small record holds of them is left
abbrev pub SavesParts : Parts → BackParts → List Run → Memory → BackParts → Type 0
SavesParts footprint back runs store small =
    SavesAll (further_of footprint) (parts_wanted back runs) store (parts_back small)

-- a step of a worker, whose objects are kept

-- its updates in a store, the put of its control first
abbrev pub planned_updates : ℕ → List Edit → Making → Memory → List Update
planned_updates w es m store = updates_by w es (wanted m.back m.runs) (state_of store)

-- it can be made
abbrev pub CanMakePlanned : ℕ → List Edit → Making → Memory → Type 0
CanMakePlanned w es m store = CanMake w (accesses_of m.footprint) es (wanted m.back m.runs) (state_of store)

-- it is made
abbrev pub MakesPlanned : ℕ → List Edit → Making → Memory → Memory → Type 0
MakesPlanned w es m old new = MakesAll (accesses_of m.footprint) (planned_updates w es m old) old new

-- the trails note the controls before it
abbrev pub NotesPlanned : ℕ → List Edit → Making → Memory → Memory → Type 0
NotesPlanned w es m old new = NotesAll (accesses_of m.footprint) (planned_updates w es m old) old new

-- and what a small record holds of it is left, but for the mark of its worker's control
abbrev pub SavesPlanned : ℕ → List Edit → Making → Memory → Backs → Type 0
SavesPlanned w es m store small =
    back_in small ≡ drop 1 (small_record (accesses_of m.footprint) (planned_updates w es m store) (state_of store))

-- a change of a worker

-- it can be made
abbrev pub CanMakeChange : ℕ → Change → Memory → Type 0
CanMakeChange w c store = CanMake w c.footprint c.edits c.updates (state_of store)

-- it is made
abbrev pub MakesChange : ℕ → Change → Memory → Memory → Type 0
MakesChange w c old new = MakesAll c.footprint (updates_by w c.edits c.updates (state_of old)) old new

-- the trails note the controls before it
abbrev pub NotesChange : ℕ → Change → Memory → Memory → Type 0
NotesChange w c old new = NotesAll c.footprint (updates_by w c.edits c.updates (state_of old)) old new

-- its small record stands behind the others
abbrev pub AddsRecord : Entry → Change → Memory → List UndoRecord → List UndoRecord → Type 0
AddsRecord e c store old new = new ≡ old ++ small_for e c (state_of store) ∷ []

-- the step of a small record is taken back
abbrev pub TakesBack : UndoRecord → Memory → Memory → Type 0
TakesBack k old new = state_of new ≡ taken_back k.footprint (full (pasts_of old) k).back (state_of old)

-- the trails have lost what its marks took
abbrev pub PopsBack : UndoRecord → Memory → Memory → Type 0
PopsBack k old new = pasts_of new ≡ before (pasts_of old) k
