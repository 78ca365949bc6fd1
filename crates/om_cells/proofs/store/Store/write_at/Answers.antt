use Rattle.std.proofs.Common.{◌∙◌, ap}
use Rattle.om_state.specs.State.{with_value}
use Rattle.om_cells.specs.Stores.{state_of}
use Rattle.om_cells.proofs.SlotLemmas.{leads_one}
use Rattle.om_cells.proofs.store.Store.write_at.Goals as goal

pub returns-then-index-cells-clause-written : goal.returns-then-index-cells-clause-written
returns-then-index-cells-clause-written c =
    leads_one c.args.cells.now.slot c.args.index c.args.cells.now.count c.args.value (state_of c.args.self.now) _
    c.if-index-cells.true
    (c.put_present.ensures.state ∙ ap (λ o. with_value o c.args.value (state_of c.args.self.now)) c.cell.ensures)
