-- The touches of objects, kept by object and mode, and each worker's own entries.
use Rattle.std.specs.Prelude.{◌≡◌, Bool, true, false, cond, nat_eq, ◌&&◌, ℕ, ◌<◌, ◌≤◌, min, is_some, Option, None, Some, List, [], slice_get}
use Rattle.std.specs.Prelude.{◌∷◌}
use Rattle.std.specs.Map.{lookup}
use Rattle.om_foot.specs.declared.object.Obj.{Obj}
use Rattle.om_foot.specs.declared.object.Obj.TheVariants as object
use Rattle.om_foot.specs.declared.footprint.Mode.{Mode}
use Rattle.om_foot.specs.declared.footprint.Mode.TheVariants.{Read, Write, Add}
use Rattle.om_foot.specs.declared.footprint.Access.{Access}
use Rattle.om_foot.specs.Footprint.{obj_eq, modes_conflict}
use Rattle.om_undo_touches.specs.declared.by_mode.Touches.{Touches}
use Rattle.om_undo_touches.specs.declared.controls.ControlTouches.{ControlTouches}
use Rattle.om_undo_touches.specs.declared.objects.ObjectTouches.{ObjectTouches}
use Rattle.om_undo_touches.specs.declared.own.OwnEntries.{OwnEntries}
use Rattle.om_foot.specs.declared.serials.Serials.{Serials}
use Rattle.om_undo_touches.specs.declared.singles.SingleTouches.{SingleTouches}
use Rattle.om_undo_touches.specs.declared.slots.SlotTouches.{SlotTouches}
use Rattle.om_undo_touches.specs.declared.touches.TouchLists.{TouchLists}
use Rattle.om_foot.specs.Serials.{has}
use Rattle.om_undo_touches.specs.Slots.{has_span, spans_of}

abbrev pub mode_eq : Mode → Mode → Bool
mode_eq Read Read = true
mode_eq Write Write = true
mode_eq Add Add = true
mode_eq _ _ = false

-- whether a footprint names an object with a mode
abbrev pub names : Obj → Mode → List Access → Bool
names o m [] = false
names o m (a ∷ rest) = cond (obj_eq a.object o && mode_eq a.mode m) true (names o m rest)

-- what is kept of them

abbrev pub list_of : Touches → Mode → Serials
list_of t Read = t.reads
list_of t Write = t.writes
list_of t Add = t.additions

abbrev pub has_in : Option Touches → Mode → ℕ → Bool
has_in None m s = false
has_in (Some t) m s = has (list_of t m) s

-- of objects that are no worker's control

abbrev pub touches_at : ObjectTouches → Obj → Option Touches
touches_at touches o = lookup (obj_eq o) touches.objects.entries

abbrev pub knows : ObjectTouches → Obj → Bool
knows touches o = is_some (touches_at touches o)

-- whether there is a touch of an object, with a mode, by the entry of a serial
abbrev pub has_object_touch : ObjectTouches → Obj → Mode → ℕ → Bool
has_object_touch touches o m s = has_in (touches_at touches o) m s

-- no touch changes; one comes, or goes
abbrev pub SameObjects : ObjectTouches → ObjectTouches → Type 0
SameObjects old new = (o : Obj) (m : Mode) (s : ℕ) → has_object_touch new o m s ≡ has_object_touch old o m s

abbrev pub ObjectsWith : Access → ℕ → ObjectTouches → ObjectTouches → Type 0
ObjectsWith access serial old new = (o : Obj) (m : Mode) (s : ℕ) → has_object_touch new o m s
    ≡ cond (nat_eq serial s && names o m (access ∷ [])) true (has_object_touch old o m s)

abbrev pub ObjectsWithout : Access → ℕ → ObjectTouches → ObjectTouches → Type 0
ObjectsWithout access serial old new = (o : Obj) (m : Mode) (s : ℕ) → has_object_touch new o m s
    ≡ cond (nat_eq serial s && names o m (access ∷ [])) false (has_object_touch old o m s)

-- of workers' controls

abbrev pub control_touches_at : ControlTouches → ℕ → Option Touches
control_touches_at controls w = slice_get controls.workers.items w

-- whether there is a touch of a worker's control, with a mode, by the entry of a serial
abbrev pub has_control_touch : ControlTouches → ℕ → Mode → ℕ → Bool
has_control_touch controls w m s = has_in (control_touches_at controls w) m s

-- no touch changes; one comes, or goes
abbrev pub SameControls : ControlTouches → ControlTouches → Type 0
SameControls old new = (w : ℕ) (m : Mode) (s : ℕ) → has_control_touch new w m s ≡ has_control_touch old w m s

abbrev pub ControlsWith : ℕ → Mode → ℕ → ControlTouches → ControlTouches → Type 0
ControlsWith worker mode serial old new = (w : ℕ) (m : Mode) (s : ℕ) → has_control_touch new w m s
    ≡ cond (nat_eq serial s && (nat_eq worker w && mode_eq mode m)) true (has_control_touch old w m s)

abbrev pub ControlsWithout : ℕ → Mode → ℕ → ControlTouches → ControlTouches → Type 0
ControlsWithout worker mode serial old new = (w : ℕ) (m : Mode) (s : ℕ) → has_control_touch new w m s
    ≡ cond (nat_eq serial s && (nat_eq worker w && mode_eq mode m)) false (has_control_touch old w m s)

-- of single objects

-- the worker whose control an object is
abbrev pub control_of : Obj → Option ℕ
control_of (object.Control w) = Some w
control_of _ = None

abbrev pub has_single_by : SingleTouches → Option ℕ → Obj → Mode → ℕ → Bool
has_single_by singles (Some w) o m s = has_control_touch singles.controls w m s
has_single_by singles None o m s = has_object_touch singles.objects o m s

-- whether there is a touch of an object that was named singly
abbrev pub has_single_touch : SingleTouches → Obj → Mode → ℕ → Bool
has_single_touch singles o m s = has_single_by singles (control_of o) o m s

-- of cells that were named at once

abbrev pub has_slot_write : SlotTouches → Obj → ℕ → Bool
has_slot_write slots (object.Cell t f n i) s = has_span (spans_of slots (record { task = t; frame = f; slot = n })) i s
has_slot_write slots _ s = false

-- whether an entry wrote a cell together with the first cells of its slot: such a touch is a write
abbrev pub has_slot_touch : SlotTouches → Obj → Mode → ℕ → Bool
has_slot_touch slots o Read s = false
has_slot_touch slots o Write s = has_slot_write slots o s
has_slot_touch slots o Add s = false

-- of all objects

-- whether there is a touch of an object, with a mode, by the entry of a serial
abbrev pub has_touch : TouchLists → Obj → Mode → ℕ → Bool
has_touch lists o m s = cond (has_single_touch lists.singles o m s) true (has_slot_touch lists.slots o m s)

-- what touches there are: of an object, with a mode, by the entry of a serial
abbrev pub Touching : Type 0
Touching = Obj → Mode → ℕ → Bool

-- the touches of one entry are there, or are not there; the others are as before
abbrev pub IsSet : Bool → List Access → ℕ → Touching → Touching → Type 0
IsSet b footprint serial old new = (o : Obj) (m : Mode) (s : ℕ)
    → new o m s ≡ cond (nat_eq serial s && names o m footprint) b (old o m s)

-- no touch comes, and of those that go all are of one entry; those of its footprint are gone
pub record LosesOfEntry (footprint : List Access) (serial : ℕ) (old new : Touching) : Type 0 where
  pub others : (o : Obj) (m : Mode) (s : ℕ) → nat_eq serial s ≡ false → new o m s ≡ old o m s
  pub fewer : (o : Obj) (m : Mode) (s : ℕ) → new o m s ≡ true → old o m s ≡ true
  pub gone : (o : Obj) (m : Mode) → names o m footprint ≡ true → new o m serial ≡ false

-- all touches of an entry are of this footprint
abbrev pub AreOnly : List Access → ℕ → TouchLists → Type 0
AreOnly footprint serial lists = (o : Obj) (m : Mode)
    → has_touch lists o m serial ≡ true → names o m footprint ≡ true

-- no touch changes; those of one entry come, or go
abbrev pub AreSame : TouchLists → TouchLists → Type 0
AreSame old new = (o : Obj) (m : Mode) (s : ℕ) → has_touch new o m s ≡ has_touch old o m s

abbrev pub AreWith : List Access → ℕ → TouchLists → TouchLists → Type 0
AreWith footprint serial old new = (o : Obj) (m : Mode) (s : ℕ)
    → has_touch new o m s ≡ cond (nat_eq serial s && names o m footprint) true (has_touch old o m s)

abbrev pub AreWithout : List Access → ℕ → TouchLists → TouchLists → Type 0
AreWithout footprint serial old new = (o : Obj) (m : Mode) (s : ℕ)
    → has_touch new o m s ≡ cond (nat_eq serial s && names o m footprint) false (has_touch old o m s)

-- whether an entry, by its serial, has a touch that conflicts with an access of the mode
abbrev pub meets_at : (Mode → ℕ → Bool) → Mode → ℕ → Bool
meets_at touch m s = cond (modes_conflict m Read && touch Read s) true
    (cond (modes_conflict m Write && touch Write s) true (modes_conflict m Add && touch Add s))

-- whether it has one that conflicts with a footprint
abbrev pub meets : (Obj → Mode → ℕ → Bool) → List Access → ℕ → Bool
meets touch [] s = false
meets touch (a ∷ rest) s = cond (meets_at (touch a.object) a.mode s) true (meets touch rest s)

-- what is kept of each worker's own entries

abbrev pub is_in : Option Serials → ℕ → Bool
is_in None s = false
is_in (Some serials) s = has serials s

-- whether the entry of a serial is a worker's own
abbrev pub is_own : OwnEntries → ℕ → ℕ → Bool
is_own own w s = is_in (slice_get own.workers.items w) s

-- no own entry changes; one comes, or goes
abbrev pub SameOwn : OwnEntries → OwnEntries → Type 0
SameOwn old new = (w s : ℕ) → is_own new w s ≡ is_own old w s

abbrev pub WithOwn : ℕ → ℕ → OwnEntries → OwnEntries → Type 0
WithOwn worker serial old new = (w s : ℕ)
    → is_own new w s ≡ cond (nat_eq serial s && nat_eq worker w) true (is_own old w s)

abbrev pub WithoutOwn : ℕ → ℕ → OwnEntries → OwnEntries → Type 0
WithoutOwn worker serial old new = (w s : ℕ)
    → is_own new w s ≡ cond (nat_eq serial s && nat_eq worker w) false (is_own old w s)
