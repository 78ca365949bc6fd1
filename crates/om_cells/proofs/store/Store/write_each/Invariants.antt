use Rattle.std.proofs.Common.{◌≡◌, ◌≤◌, ◌-◌}
use Rattle.std.specs.Vec.Iter.{into_iter_items}
use Rattle.om_foot.specs.declared.object.Obj.{Obj}
use Rattle.om_state.specs.State.{updated}
use Rattle.om_foot.specs.Cells.{cells_from}
use Rattle.om_state.specs.Runs.{were_listed}
use Rattle.om_cells.specs.Stores.{state_of, is_kept}
use Rattle.om_cells.proofs.store.Store.write_each.Given as goal

-- what is left leads where all leads
abbrev pub invariant-loop-each : goal.invariant-loop-each
invariant-loop-each l = record {
  can_next : (goal.iterator-loop-each).can_next l.each-iterator;
  is_finite : (goal.iterator-loop-each).is_finite l.each-iterator;
  within : l.index ≤ l.cells.count;
  kept : (q : Obj) → is_kept l.self q ≡ is_kept l.fn.self q;
  written : updated (cells_from l.cells.slot l.index (l.cells.count - l.index))
      (were_listed (into_iter_items l.each-iterator)) (state_of l.self)
      ≡ updated (cells_from l.cells.slot 0 l.cells.count) (were_listed l.fn.was) (state_of l.fn.self);
}
