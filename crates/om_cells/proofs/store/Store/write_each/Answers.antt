use Rattle.std.proofs.Common.{◌∙◌, sym, ap, arith, ◌-◌}
use Rattle.std.proofs.lemmas.List.{nil_from_length}
use Rattle.om_state.specs.State.{updated}
use Rattle.om_foot.specs.Cells.{cells_from}
use Rattle.om_state.specs.Runs.{were_listed}
use Rattle.om_cells.specs.Stores.{state_of}
use Rattle.om_cells.proofs.SlotLemmas.{no_updates}
use Rattle.om_cells.proofs.store.Store.write_each.Goals as goal

pub returns-clause-state : goal.returns-clause-state
returns-clause-state c =
    let left = cells_from c.args.cells.now.slot c.loop-each.index (c.args.cells.now.count - c.loop-each.index) in
    sym (no_updates left (state_of c.loop-each.self))
    ∙ sym (ap (λ us. updated left (were_listed us) (state_of c.loop-each.self))
    (nil_from_length c.loop-each.each-iterator.rest.items
    (omega (arith, c.loop-each.each-iterator.rest.ok, c.in-None.ensures.steps.0))))
    ∙ c.loop-each.invariant.written
