use Rattle.std.proofs.Common.{◌≡◌, ◌∙◌, sym, ap, subst, true}
use Rattle.std.specs.Prelude.{All}
use Rattle.om_foot.specs.Cells.{cells_of}
use Rattle.om_state.specs.Runs.{puts_of}
use Rattle.om_state.specs.State.{updated, undo_record}
use Rattle.om_cells.specs.Stores.{state_of, is_kept}
use Rattle.om_cells.proofs.CellStates.{each_kept, undone_all, one_run}
use Rattle.om_cells.proofs.store.Store.put_cells.Goals as goal

pub noted-requires : goal.noted-requires
noted-requires c = each_kept (is_kept c.args.self.now) c.cells-cells.result
    (subst (λ x. All (λ a. is_kept c.args.self.now a.object ≡ true) (cells_of x)) (sym c.cells-cells.ensures)
    c.requires.kept)

pub write-requires : goal.write-requires
write-requires c = each_kept (is_kept c.args.self.now) c.cells-cells.result
    (subst (λ x. All (λ a. is_kept c.args.self.now a.object ≡ true) (cells_of x)) (sym c.cells-cells.ensures)
    c.requires.kept)

pub returns-clause-was : goal.returns-clause-was
returns-clause-was c =
    let s = state_of c.args.self.now in
    c.in_ok-was.ensures ∙ undone_all c.cells-cells.result c.args.cell s
    ∙ ap (λ x. undo_record (cells_of x) (puts_of c.args.cell x.count) s) c.cells-cells.ensures

pub returns-clause-state : goal.returns-clause-state
returns-clause-state c =
    let s = state_of c.args.self.now in
    c.write.ensures.state
    ∙ ap (λ us. updated (cells_of c.cells-cells.result) us s)
    (one_run c.args.cell c.cells-cells.result.count c.in_ok-puts.puts c.in_ok-puts.ensures)
    ∙ ap (λ x. updated (cells_of x) (puts_of c.args.cell x.count) s) c.cells-cells.ensures
