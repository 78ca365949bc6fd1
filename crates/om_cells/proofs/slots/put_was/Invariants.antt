use Rattle.std.proofs.Common.{◌≡◌, ◌≤◌, ◌-◌, length, List}
use Rattle.std.specs.Vec.Iter.{into_iter_items}
use Rattle.om_foot.specs.declared.object.SlotName.{SlotName}
use Rattle.om_state.specs.declared.value.Val.{Val}
use Rattle.om_state.specs.State.{State, updated}
use Rattle.om_foot.specs.Cells.{cells_from}
use Rattle.om_state.specs.Runs.{were_listed}
use Rattle.om_cells.specs.Slots.{Mirrors}
use Rattle.om_cells.proofs.slots.put_was.Given as goal

-- what is left leads where all leads
abbrev pub invariant-loop-each : goal.invariant-loop-each
invariant-loop-each l = record {
  can_next : (goal.iterator-loop-each).can_next l.each-iterator;
  is_finite : (goal.iterator-loop-each).is_finite l.each-iterator;
  within : l.index ≤ l.count;
  same_length : length l.values.items ≡ length l.fn.values.items;
  written : (slot : SlotName) (s : List Val → State) → Mirrors slot l.count s
      → updated (cells_from slot l.index (l.count - l.index)) (were_listed (into_iter_items l.each-iterator))
      (s l.values.items)
      ≡ updated (cells_from slot 0 l.count) (were_listed l.fn.was) (s l.fn.values.items);
}
