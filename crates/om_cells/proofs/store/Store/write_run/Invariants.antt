use Rattle.std.proofs.Common.{◌≡◌, ◌≤◌}
use Rattle.om_foot.specs.declared.object.Obj.{Obj}
use Rattle.om_state.specs.Runs.{puts_of}
use Rattle.om_cells.specs.Slots.{Leads}
use Rattle.om_cells.specs.Stores.{state_of, is_kept}
use Rattle.om_cells.proofs.store.Store.write_run.Given as goal

-- so many values of the run are put
abbrev pub invariant-loop-turn : goal.invariant-loop-turn
invariant-loop-turn l = record {
  within : l.index ≤ l.cells.count;
  kept : (q : Obj) → is_kept l.self q ≡ is_kept l.fn.self q;
  written : Leads (puts_of l.run.cell l._turn) l.cells.slot l.cells.count l.from l.index (state_of l.fn.self)
      (state_of l.self);
}
