use Rattle.std.proofs.Common.{refl}
use Rattle.om_state.specs.Runs.{were_listed}
use Rattle.om_cells.specs.Stores as values
use Rattle.om_memory.specs.Memories.{state_of, is_kept, pasts_of}
use Rattle.om_memory.proofs.CellRuns.{cells_taken, values_kept}
use Rattle.om_memory.proofs.Values.{kept_alike}
use Rattle.om_memory.proofs.memory.Memory.put_cells_back.Goals as goal

pub put_cells_back-requires : goal.put_cells_back-requires
unfolding is_kept
put_cells_back-requires c = record {
  kept = values_kept c.args.self.now.trails.items (values.is_kept c.args.self.now.values) c.args.cells.now c.requires.kept;
}

pub returns-clause-state : goal.returns-clause-state
unfolding state_of
returns-clause-state c = cells_taken c.args.self.now.trails.items c.args.cells.now (were_listed c.args.was)
    (values.state_of c.args.self.now.values) _ c.put_cells_back.ensures.state

pub returns-clause-pasts : goal.returns-clause-pasts
unfolding pasts_of
returns-clause-pasts c = refl

pub returns-clause-kept : goal.returns-clause-kept
unfolding is_kept
returns-clause-kept c = λ q. kept_alike c.args.self.now.trails.items (values.is_kept c.args.self.now.values)
    (values.is_kept c.put_cells_back.new.self) c.put_cells_back.ensures.kept q
