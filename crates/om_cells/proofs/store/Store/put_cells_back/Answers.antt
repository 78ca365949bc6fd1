use Rattle.std.proofs.Common.{◌≡◌, ◌∙◌, sym, ap, subst, true}
use Rattle.std.specs.Prelude.{All}
use Rattle.om_foot.specs.Cells.{cells_of}
use Rattle.om_state.specs.Runs.{were_listed}
use Rattle.om_state.specs.State.{taken_back}
use Rattle.om_cells.specs.Stores.{state_of, is_kept}
use Rattle.om_cells.proofs.CellStates.{each_kept, taken_back-puts}
use Rattle.om_cells.proofs.store.Store.put_cells_back.Goals as goal

pub write-requires : goal.write-requires
write-requires c = each_kept (is_kept c.args.self.now) c.cells.result
    (subst (λ x. All (λ a. is_kept c.args.self.now a.object ≡ true) (cells_of x)) (sym c.cells.ensures) c.requires.kept)

pub returns-clause-state : goal.returns-clause-state
returns-clause-state c = c.write.ensures.state
    ∙ taken_back-puts c.cells.result c.args.was (state_of c.args.self.now)
    ∙ ap (λ x. taken_back (cells_of x) (were_listed c.args.was) (state_of c.args.self.now)) c.cells.ensures
