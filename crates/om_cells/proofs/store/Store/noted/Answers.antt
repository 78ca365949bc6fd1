use Rattle.std.proofs.lemmas.Result.{IfOk-weaker}
use Rattle.om_state.specs.Runs.{were_listed}
use Rattle.om_cells.specs.Stores.{state_of, kept_in}
use Rattle.om_cells.proofs.SlotLemmas.{noted_in}
use Rattle.om_cells.proofs.store.Store.noted.Goals as goal

pub returns-then-lie_together : goal.returns-then-lie_together
unfolding state_of
returns-then-lie_together c =
    let lies = c.lie_together.ensures c.if-lie_together.true in
    IfOk-weaker c.noted.result _ _
    (λ was noted. noted_in c.args.cells.now c.args.self.now.slots
    (kept_in c.args.self.now.unnamed c.args.self.now.named) _ (were_listed was) lies.has c.values.ensures lies.alone
    noted) c.noted.ensures
