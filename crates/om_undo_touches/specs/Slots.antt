-- The writes of cells that were named at once, by slot.
use Rattle.std.specs.Prelude.{◌≡◌, Bool, true, false, cond, nat_eq, nat_lt, ◌&&◌, ℕ, Option, None, Some, List, [], ◌∷◌}
use Rattle.std.specs.Cmp.Lexicographic.{pointwise}
use Rattle.std.specs.Map.{lookup}
use Rattle.om_foot.specs.declared.object.Obj.{Obj}
use Rattle.om_foot.specs.declared.object.Obj.TheVariants as object
use Rattle.om_foot.specs.declared.object.SlotName.{SlotName}
use Rattle.om_foot.specs.declared.object.Cells.{Cells}
use Rattle.om_undo_touches.specs.declared.spans.SpanTouches.{SpanTouches}
use Rattle.om_undo_touches.specs.declared.spans.Spans.{Spans}
use Rattle.om_undo_touches.specs.declared.slots.SlotTouches.{SlotTouches}
use Rattle.om_foot.specs.Serials.{has}

-- whether two names are of one slot
abbrev pub slot_eq : SlotName → SlotName → Bool
slot_eq a b = pointwise nat_eq a.task b.task && (nat_eq a.frame b.frame && nat_eq a.slot b.slot)

-- whether an entry wrote a beginning of a slot that has the cell of an index
abbrev pub has_span : List SpanTouches → ℕ → ℕ → Bool
has_span [] i s = false
has_span (x ∷ xs) i s = cond (nat_lt i x.count && has x.serials s) true (has_span xs i s)

abbrev pub spans_in : Option Spans → List SpanTouches
spans_in None = []
spans_in (Some spans) = spans.spans.items

-- what is kept of a slot
abbrev pub spans_of : SlotTouches → SlotName → List SpanTouches
spans_of slots name = spans_in (lookup (slot_eq name) slots.slots.entries)

-- no write of a slot changes; those of one entry come, or go
abbrev pub SameSlots : SlotTouches → SlotTouches → Type 0
SameSlots old new = (q : SlotName) (i s : ℕ) → has_span (spans_of new q) i s ≡ has_span (spans_of old q) i s

abbrev pub SlotsWith : SlotName → ℕ → ℕ → SlotTouches → SlotTouches → Type 0
SlotsWith name count serial old new = (q : SlotName) (i s : ℕ) → has_span (spans_of new q) i s
    ≡ cond (slot_eq name q && (nat_eq serial s && nat_lt i count)) true (has_span (spans_of old q) i s)

abbrev pub SlotsWithout : SlotName → ℕ → SlotTouches → SlotTouches → Type 0
SlotsWithout name serial old new = (q : SlotName) (i s : ℕ) → has_span (spans_of new q) i s
    ≡ cond (slot_eq name q && nat_eq serial s) false (has_span (spans_of old q) i s)

-- whether it is one of these cells
abbrev pub is_cell_in : Cells → Obj → Bool
is_cell_in c (object.Cell t f n i) =
    ((nat_lt i c.count && nat_eq n c.slot.slot) && nat_eq f c.slot.frame) && pointwise nat_eq t c.slot.task
is_cell_in c _ = false
