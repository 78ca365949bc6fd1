-- The objects that instructions name, and what is put there.
use Rattle.std.specs.Prelude.{ℕ, Bool, true, false, is_some, if◌then◌else◌, zero, suc, ◌+◌, ℤ, Option, None, Some, List}
use Rattle.std.specs.Prelude.{[], ◌∷◌, ◌++◌, slice_index_or}
use Rattle.om_foot.specs.declared.object.Obj.{Obj}
use Rattle.om_foot.specs.declared.object.Obj.TheVariants as obj
use Rattle.om_foot.specs.declared.footprint.Access.{Access}
use Rattle.om_foot.specs.declared.footprint.Mode.TheVariants as mode
use Rattle.om_code.specs.declared.instruction.Place.{Place}
use Rattle.om_code.specs.declared.instruction.Place.TheVariants as place
use Rattle.om_code.specs.declared.raw.Slot.{Slot}
use Rattle.om_code.specs.declared.raw.Source.{Source}
use Rattle.om_code.specs.declared.raw.Source.TheVariants as source
use Rattle.om_code.specs.declared.frame.Cell as cells
use Rattle.om_code.specs.declared.frame.Cell.TheVariants as cell
use Rattle.om_events.specs.declared.event.Record.{Record}
use Rattle.om_foot.specs.declared.object.SlotName.{SlotName}
use Rattle.om_state.specs.declared.control.Home.{Home}
use Rattle.om_state.specs.declared.control.Home.TheVariants.{Own, Elsewhere}
use Rattle.om_state.specs.declared.control.Context.{Context}
use Rattle.om_state.specs.declared.control.Kind.{Kind}
use Rattle.om_state.specs.declared.control.Kind.TheVariants as kind
use Rattle.om_state.specs.declared.control.Construct.{Construct}
use Rattle.om_state.specs.declared.control.Construct.TheVariants as construct
use Rattle.om_state.specs.declared.step.Tail.TheVariants.{Events}
use Rattle.om_state.specs.declared.step.Update.{Update}
use Rattle.om_state.specs.declared.step.Update.TheVariants.{Put, Append}
use Rattle.om_state.specs.declared.value.Val.TheVariants as value
use Rattle.om_state.specs.Homes.{cell_of}

abbrev pub read : Obj → Access
read o = record { object = o; mode = mode.Read }

abbrev pub write : Obj → Access
write o = record { object = o; mode = mode.Write }

abbrev pub add : Obj → Access
add o = record { object = o; mode = mode.Add }

-- where the cells of a slot lie; where a frame has no such slot, in the frame itself
abbrev pub home_at : List Home → ℕ → Home
home_at homes slot = slice_index_or homes slot Own

-- the object of a variable's cell, in the running frame of a context
abbrev pub object_of : Context → Place → ℕ → Obj
object_of c (place.Global variable) index = obj.Global variable index
object_of c (place.Slot slot) index = cell_of c.task c.frame.ordinal slot index (home_at c.frame.homes slot)

-- the slot in which the cells of a slot lie
abbrev pub slot_in : List ℕ → ℕ → ℕ → Home → SlotName
slot_in task frame slot Own = record { task = task; frame = frame; slot = slot }
slot_in task frame slot (Elsewhere t f s) = record { task = t; frame = f; slot = s }

-- the cells of a slot, from this index on
abbrev pub slot_cells : List ℕ → ℕ → ℕ → Home → ℕ → ℕ → List Access
slot_cells task frame slot home index zero = []
slot_cells task frame slot home index (suc count) = write (cell_of task frame slot index home) ∷ slot_cells task
    frame slot home (index + 1) count

-- the first cells of these slots, in the frame of a task with this ordinal
abbrev pub given_cells : List ℕ → ℕ → List ℕ → List Access
given_cells task frame [] = []
given_cells task frame (slot ∷ slots) = write (obj.Cell task frame slot 0) ∷ given_cells task frame slots

-- the cells of a slot of the running frame, where they lie in the frame itself
abbrev pub own_slot : Context → ℕ → ℕ → Home → List Access
own_slot c slot cells Own = slot_cells c.task c.frame.ordinal slot Own 0 cells
own_slot c slot cells (Elsewhere t f s) = []

-- the cells of the running frame's own slots, from the slot of this number on
abbrev pub own_from : Context → ℕ → List Slot → List Access
own_from c number [] = []
own_from c number (slot ∷ slots) = own_slot c number slot.cells (home_at c.frame.homes number)
    ++ own_from c (number + 1) slots

abbrev pub own_cells : Context → List Slot → List Access
own_cells c slots = own_from c 0 slots

-- where the cells of a slot lie, for a frame that is begun from another one
abbrev pub home_from : List ℕ → ℕ → ℕ → Home → Home
home_from task frame slot Own = Elsewhere task frame slot
home_from task frame slot (Elsewhere t f s) = Elsewhere t f s

abbrev pub home_for : List ℕ → ℕ → List Home → Source → Home
home_for task frame homes source.Own = Own
home_for task frame homes (source.Outer slot) = home_from task frame slot (home_at homes slot)

-- where the cells of a body's slots lie, for a frame that is begun from the frame of a task with this ordinal
-- and these homes
abbrev pub homes_for : List ℕ → ℕ → List Home → List Slot → List Home
homes_for task frame homes [] = []
homes_for task frame homes (slot ∷ slots) = home_for task frame homes slot.source ∷ homes_for task frame homes slots

-- the same from the running frame of a context
abbrev pub homes_in : Context → List Slot → List Home
homes_in c slots = homes_for c.task c.frame.ordinal c.frame.homes slots

-- ints put into cells, and cells whose frame ends
abbrev pub puts : List ℤ → List Update
puts [] = []
puts (n ∷ ns) = Put (value.Cell (cell.Int n)) ∷ puts ns

-- a put of one value for each access
abbrev pub same_puts : cells.Cell → List Access → List Update
same_puts cell [] = []
same_puts cell (a ∷ rest) = Put (value.Cell cell) ∷ same_puts cell rest

abbrev pub deaths : List Access → List Update
deaths [] = []
deaths (a ∷ rest) = Put (value.Cell cell.Dead) ∷ deaths rest

-- the records of a worker, and what is appended there
abbrev pub events : ℕ → Access
events worker = write (obj.Events worker)

abbrev pub event : Record → Update
event e = Append (Events (e ∷ []))

-- the innermost open region
abbrev pub innermost : List Construct → Option Construct
innermost [] = None
innermost (c ∷ constructs) = Some c

-- the name of the task group that a region is, if it is one
abbrev pub group_name : Construct → Option (List ℕ)
group_name (construct.Group name) = Some name
group_name (construct.Share share) = None
group_name (construct.Single runs) = None
group_name construct.Masked = None
group_name (construct.Critical lock) = None

-- the innermost task group: that of the regions, else the one in which the task began (OpenMP 5.2, 15.4)
abbrev pub or_else : Option (List ℕ) → Option (List ℕ) → Option (List ℕ)
or_else (Some name) other = Some name
or_else None other = other

abbrev pub group_in : List Construct → Option (List ℕ) → Option (List ℕ)
group_in [] began = began
group_in (c ∷ constructs) began = or_else (group_name c) (group_in constructs began)

-- OpenMP 5.2, 17.1: no barrier or worksharing region binds in an explicit task, or inside a worksharing,
-- masked or critical region
abbrev pub is_in_region : List Construct → Bool
is_in_region [] = false
is_in_region (c ∷ constructs) = if is_some (group_name c) then is_in_region constructs else true

abbrev pub is_misplaced_in : Kind → List Construct → Bool
is_misplaced_in kind.Explicit constructs = true
is_misplaced_in _ constructs = is_in_region constructs

abbrev pub is_misplaced : Context → Bool
is_misplaced c = is_misplaced_in c.kind c.constructs
