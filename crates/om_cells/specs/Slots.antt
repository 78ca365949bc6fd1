-- The values of slots' cells that are kept together.
use Rattle.std.specs.Prelude.{◌≡◌, ◌<◌, ◌≤◌, ◌+◌, ◌-◌, ℕ, zero, suc, Bool, true, cond, Option, None, Some, unwrap_or}
use Rattle.std.specs.Prelude.{List, [], ◌∷◌, ◌++◌, length, set, slice_get, is_some}
use Rattle.std.specs.Map.{lookup}
use Rattle.std.specs.BTreeMap.{is_at}
use Rattle.om_code.specs.declared.frame.Cell.TheVariants as cell
use Rattle.om_foot.specs.declared.object.Obj.{Obj}
use Rattle.om_foot.specs.Footprint.{obj_eq}
use Rattle.om_foot.specs.contracts.object.SlotNameOrd.TheImpl.{cmp-value}
use Rattle.om_foot.specs.declared.object.SlotName.{SlotName}
use Rattle.om_foot.specs.declared.object.Cells.{Cells}
use Rattle.om_state.specs.declared.step.Update.{Update}
use Rattle.om_state.specs.declared.step.Update.TheVariants.{Put}
use Rattle.om_state.specs.declared.value.Val.{Val}
use Rattle.om_state.specs.declared.value.Val.TheVariants as value
use Rattle.om_state.specs.State.{State, with_value, updated}
use Rattle.om_state.specs.Values.{default_of}
use Rattle.om_foot.specs.Cells.{Spot, cell_at, spot_of, cells_from}

-- the slots that are kept, with the values of the first cells of each
abbrev pub Slots : Type 0
Slots = List (SlotName × List Val)

abbrev pub same_slot : SlotName → SlotName → Bool
same_slot a b = is_at (cmp-value.it a) b

abbrev pub values_in : Slots → SlotName → Option (List Val)
values_in es slot = lookup (same_slot slot) es

abbrev pub value_among : Option (List Val) → ℕ → Option Val
value_among None i = None
value_among (Some vs) i = slice_get vs i

abbrev pub value_in : Slots → Option Spot → Option Val
value_in es None = None
value_in es (Some p) = value_among (values_in es p.0) p.1

-- the value that is kept at a cell in its slot
abbrev pub slot_value : Slots → Obj → Option Val
slot_value es q = value_in es (spot_of q)

-- the same with these values in one of the slots
abbrev pub value_with : SlotName → List Val → Slots → Option Spot → Option Val
value_with slot vs es None = None
value_with slot vs es (Some p) = value_among (cond (same_slot slot p.0) (Some vs) (values_in es p.0)) p.1

-- the value of a slot's place, beneath that of a single one
abbrev pub kept_over : Option Val → Option Val → Option Val
kept_over None single = single
kept_over (Some v) single = Some (unwrap_or single v)

-- the values of a slot, if it is kept, else none
abbrev pub values_of : Slots → SlotName → List Val
values_of es slot = unwrap_or (values_in es slot) []

-- the same slots with other values in one
abbrev pub Replaces : SlotName → List Val → Slots → Slots → Type 0
Replaces slot vs old new = (m : SlotName) → values_in new m ≡ cond (same_slot slot m) (Some vs) (values_in old m)

-- another value at an object
abbrev pub PutsIn : Obj → Val → Slots → Slots → Type 0
PutsIn k v old new = (q : Obj) → slot_value new q ≡ cond (obj_eq k q) (Some v) (slot_value old q)

abbrev pub unset : Val
unset = value.Cell cell.Unset

-- the default, where a cell is kept
abbrev pub reset : Option Val → Option Val
reset None = None
reset (Some v) = Some unset

-- the default at an object, if it is a cell that is kept in its slot
abbrev pub ResetsIn : Obj → Slots → Slots → Type 0
ResetsIn k old new = (q : Obj) → slot_value new q ≡ cond (obj_eq k q) (reset (slot_value old q)) (slot_value old q)

-- more values, which are defaults
pub record Grows (vs ws : List Val) : Type 0 where
  pub holds : (i : ℕ) → unwrap_or (slice_get ws i) unset ≡ unwrap_or (slice_get vs i) unset
  pub keeps : (i : ℕ) → is_some (slice_get vs i) ≡ true → is_some (slice_get ws i) ≡ true

pub record SlotsGrow (old new : Slots) : Type 0 where
  pub holds : (q : Obj) → unwrap_or (slot_value new q) (default_of q) ≡ unwrap_or (slot_value old q) (default_of q)
  pub keeps : (q : Obj) → is_some (slot_value old q) ≡ true → is_some (slot_value new q) ≡ true

-- the first cells of a slot are kept
abbrev pub KeepsCells : (Obj → Bool) → Cells → Type 0
KeepsCells kept c = (i : ℕ) → i < c.count → kept (cell_at c.slot i) ≡ true

pub record HasCells (c : Cells) (es : Slots) : Type 0 where
  pub known : is_some (values_in es c.slot) ≡ true
  pub enough : c.count ≤ length (values_of es c.slot)

-- A state by the values of a slot's first cells: it has them there, and a change of one of them is a put.
pub record Mirrors (slot : SlotName) (count : ℕ) (s : List Val → State) : Type 0 where
  pub has : (i : ℕ) → i < count → (vs : List Val) (v : Val) → slice_get vs i ≡ Some v → s vs (cell_at slot i) ≡ v
  pub puts : (i : ℕ) → i < count → (vs : List Val) → i < length vs → (v : Val)
      → s (set vs i v) ≡ with_value (cell_at slot i) v (s vs)

-- Puts from an index on, which lead to another index: what more puts make from there on is what all make.
abbrev pub Leads : List Update → SlotName → ℕ → ℕ → ℕ → State → State → Type 0
Leads us slot count from to old new = (more : List Update)
    → updated (cells_from slot to (count - to)) more new ≡ updated (cells_from slot from (count - from)) (us ++ more) old

abbrev pub Writes : List Update → ℕ → ℕ → ℕ → List Val → List Val → Type 0
Writes us count from to old new = (slot : SlotName) (s : List Val → State) → Mirrors slot count s
    → Leads us slot count from to (s old) (s new)

-- puts at the first indexes
abbrev pub WritesAll : List Update → ℕ → List Val → List Val → Type 0
WritesAll us count old new = (slot : SlotName) (s : List Val → State) → Mirrors slot count s
    → s new ≡ updated (cells_from slot 0 count) us (s old)

-- the same slots, with puts at the first cells of one
pub record ReplacesAll (c : Cells) (us : List Update) (old new : Slots) : Type 0 where
  pub replaced : Replaces c.slot (values_of new c.slot) old new
  pub written : WritesAll us c.count (values_of old c.slot) (values_of new c.slot)
  pub same_length : length (values_of new c.slot) ≡ length (values_of old c.slot)

-- what takes a put of so many cells back, from an index on
abbrev pub olds : SlotName → ℕ → ℕ → State → List Update
olds slot index zero s = []
olds slot index (suc count) s = Put (s (cell_at slot index)) ∷ olds slot (index + 1) count s
