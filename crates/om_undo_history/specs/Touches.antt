-- The touch lists of a history, and its records by serial.
use Rattle.std.specs.Prelude.{◌≡◌, Bool, true, false, cond, nat_eq, ◌&&◌, is_some, ℕ, ◌<◌, List, [], ◌∷◌, Option, Some}
use Rattle.std.specs.Map.{values_of, lookup}
use Rattle.std.specs.Ordering.{nat_cmp}
use Rattle.std.specs.BTreeMap.{is_at}
use Rattle.om_foot.specs.declared.object.Obj.{Obj}
use Rattle.om_foot.specs.declared.object.Obj.TheVariants as obj
use Rattle.om_foot.specs.declared.footprint.Mode.{Mode}
use Rattle.om_foot.specs.declared.footprint.Mode.TheVariants.{Write}
use Rattle.om_foot.specs.declared.footprint.Access.{Access}
use Rattle.om_foot.specs.Footprint.{conflict_of}
use Rattle.om_undo_touches.specs.declared.own.OwnEntries.{OwnEntries}
use Rattle.om_undo_touches.specs.declared.touches.TouchLists.{TouchLists}
use Rattle.om_undo_touches.specs.Touches.{names, has_touch, is_own, AreWith, WithOwn}
use Rattle.om_undo_history.specs.declared.records.UndoRecord.{UndoRecord}
use Rattle.om_undo_history.specs.Cones.{meets_one, is_member}
use Rattle.om_undo_history.specs.Records.{transition_of, transitions_of, AreAbove}

-- whether one of these entries has this serial and touches an object with a mode, by a footprint of each
abbrev pub touched : (UndoRecord → List Access) → List UndoRecord → Obj → Mode → ℕ → Bool
touched footprint [] o m s = false
touched footprint (k ∷ ks) o m s = cond (nat_eq k.entry.serial s && names o m (footprint k)) true
    (touched footprint ks o m s)

-- the lists of some entries: an object's list of a mode has the serials of those that touch it so
abbrev pub AreListsOf : (UndoRecord → List Access) → List UndoRecord → TouchLists → Type 0
AreListsOf footprint ks lists = (o : Obj) (m : Mode) (s : ℕ) → has_touch lists o m s ≡ touched footprint ks o m s

-- what tells an entry's worker: its own control
abbrev pub own_footprint : UndoRecord → List Access
own_footprint k = record { object = obj.Control k.entry.worker; mode = Write } ∷ []

-- the own entries of the workers of some entries
abbrev pub AreOwnOf : List UndoRecord → OwnEntries → Type 0
AreOwnOf ks own = (w s : ℕ) → is_own own w s ≡ touched own_footprint ks (obj.Control w) Write s

-- the touches of an entry are added to the lists
abbrev pub NotesTouches : UndoRecord → TouchLists → TouchLists → Type 0
NotesTouches k old new = AreWith k.footprint k.entry.serial old new

-- it is added to its worker's own entries
abbrev pub NotesOwn : UndoRecord → OwnEntries → OwnEntries → Type 0
NotesOwn k old new = WithOwn k.entry.worker k.entry.serial old new

-- something is so of the records whose touches are in these lists
abbrev pub OfListed : TouchLists → (List UndoRecord → Type 0) → Type 0
OfListed lists P = (ms : List UndoRecord) → AreListsOf (λ k. k.footprint) ms lists → AreAbove 0 ms → P ms

-- it tells whether a record conflicts with one of them
abbrev pub TellsMeets : TouchLists → UndoRecord → Bool → Type 0
TellsMeets lists k told = OfListed lists (λ ms. told ≡ meets_one (transitions_of ms) (transition_of k))

-- it tells whether a record is of the cone of which they are the members before it
abbrev pub TellsMember : ℕ → TouchLists → UndoRecord → Bool → Type 0
TellsMember serial lists k told =
    OfListed lists (λ ms. told ≡ is_member serial (transitions_of ms) (transition_of k))

-- the record with a serial
abbrev pub record_at : ℕ → List (ℕ × UndoRecord) → Option UndoRecord
record_at serial es = lookup (is_at (nat_cmp serial)) es

-- the record with a serial conflicts with an earlier one
abbrev pub ConflictsAt : ℕ → List (ℕ × UndoRecord) → UndoRecord → Type 0
ConflictsAt serial es earlier = (made : UndoRecord) × (record_at serial es ≡ Some made)
    × (is_some (conflict_of earlier.footprint made.footprint) ≡ true)

-- records by serial, which rise
abbrev pub AreBySerial : ℕ → List (ℕ × UndoRecord) → Type 0
AreBySerial low [] = Unit {0}
AreBySerial low (e ∷ es) = (low < e.0) × (e.0 ≡ e.1.entry.serial) × AreBySerial e.0 es

-- what is true of kept records and of the lists beside them
pub record IsIndexed (es : List (ℕ × UndoRecord)) (lists : TouchLists) (own : OwnEntries) : Type 0 where
  pub by_serial : AreBySerial 0 es
  -- the touch lists are those of the entries
  pub touches : AreListsOf (λ k. k.footprint) (values_of es) lists
  -- and for each worker there are its own entries
  pub own_entries : AreOwnOf (values_of es) own
