use Rattle.std.proofs.Common.{◌∙◌, ap, refl}
use Rattle.std.proofs.lemmas.Result.{IfOk-weaker, on_ok_weaker, on_err_weaker}
use Rattle.om_state.specs.Runs.{puts_of}
use Rattle.om_cells.specs.Stores as values
use Rattle.om_memory.specs.Memories.{state_of, is_kept, pasts_of, held_by}
use Rattle.om_memory.proofs.CellRuns.{cells_updated, cells_undo, values_kept}
use Rattle.om_memory.proofs.Values.{kept_alike}
use Rattle.om_memory.proofs.memory.Memory.put_cells.Goals as goal

pub put_cells-requires : goal.put_cells-requires
unfolding is_kept
put_cells-requires c = record {
  kept = values_kept c.args.self.now.trails.items (values.is_kept c.args.self.now.values) c.args.cells.now c.requires.kept;
}

pub returns-clause-was : goal.returns-clause-was
unfolding state_of
returns-clause-was c = IfOk-weaker c.put_cells.result _ _
    (λ was is. is ∙ cells_undo c.args.self.now.trails.items c.args.cells.now
    (puts_of c.args.cell c.args.cells.now.count) (values.state_of c.args.self.now.values))
    c.put_cells.ensures.was

pub returns-clause-state : goal.returns-clause-state
unfolding state_of
returns-clause-state c = on_ok_weaker c.put_cells.result
    (cells_updated c.args.self.now.trails.items c.args.cells.now (puts_of c.args.cell c.args.cells.now.count)
    (values.state_of c.args.self.now.values) _) c.put_cells.ensures.state

pub returns-clause-pasts : goal.returns-clause-pasts
unfolding pasts_of
returns-clause-pasts c = refl

pub returns-clause-kept : goal.returns-clause-kept
unfolding is_kept
returns-clause-kept c = λ q. kept_alike c.args.self.now.trails.items (values.is_kept c.args.self.now.values)
    (values.is_kept c.put_cells.new.self) c.put_cells.ensures.kept q

pub returns-clause-same_state_on_error : goal.returns-clause-same_state_on_error
unfolding state_of
returns-clause-same_state_on_error c = on_err_weaker c.put_cells.result (ap (held_by c.args.self.now.trails.items))
    c.put_cells.ensures.unchanged_on_error
