use Rattle.std.proofs.Common.{◌≡◌, ◌≤◌, length}
use Rattle.om_state.specs.Runs.{puts_of}
use Rattle.om_cells.specs.Slots.{Writes}
use Rattle.om_cells.proofs.slots.put_run.Given as goal

-- so many values of the run are put
abbrev pub invariant-loop-turn : goal.invariant-loop-turn
invariant-loop-turn l = record {
  within : l.index ≤ l.count;
  same_length : length l.values.items ≡ length l.fn.values.items;
  written : Writes (puts_of l.run.cell l._turn) l.count l.from l.index l.fn.values.items l.values.items;
}
