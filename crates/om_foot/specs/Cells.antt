-- The cells of a slot, and the accesses that cells named at once stand for.
use Rattle.std.specs.Prelude.{ℕ, zero, suc, ◌+◌, Option, None, Some, List, [], ◌∷◌, ◌++◌}
use Rattle.std.specs.Global.{Box}
use Rattle.om_foot.specs.declared.object.Obj.{Obj}
use Rattle.om_foot.specs.declared.object.Obj.TheVariants as obj
use Rattle.om_foot.specs.declared.footprint.Mode.TheVariants as mode
use Rattle.om_foot.specs.declared.footprint.Access.{Access}
use Rattle.om_foot.specs.declared.object.SlotName.{SlotName}
use Rattle.om_foot.specs.declared.object.Cells.{Cells}

-- a place in a slot
abbrev pub Spot : Type 0
Spot = SlotName × ℕ

abbrev pub cell_at : SlotName → ℕ → Obj
cell_at slot index = obj.Cell slot.task slot.frame slot.slot index

-- the slot and the index of a cell
abbrev pub spot_of : Obj → Option Spot
spot_of (obj.Cell t f s i) = Some (record { task = t; frame = f; slot = s }, i)
spot_of _ = None

-- a cell of a slot, written
abbrev pub cell_access : SlotName → ℕ → Access
cell_access slot index = record { object = cell_at slot index; mode = mode.Write }

-- so many cells of a slot, from an index on
abbrev pub cells_from : SlotName → ℕ → ℕ → List Access
cells_from slot index zero = []
cells_from slot index (suc count) = cell_access slot index ∷ cells_from slot (index + 1) count

abbrev pub cells_of : Cells → List Access
cells_of c = cells_from c.slot 0 c.count

abbrev pub cells_listed : List Cells → List Access
cells_listed [] = []
cells_listed (c ∷ cs) = cells_of c ++ cells_listed cs

-- what stands behind other items, in a box where there is any
abbrev pub boxed_list : {A : Type 0} → Option (Box (List A)) → List A
boxed_list None = []
boxed_list (Some items) = items.value
