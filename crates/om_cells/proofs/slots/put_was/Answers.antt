use Rattle.std.proofs.Common.{◌∙◌, sym, ap, arith, ◌-◌}
use Rattle.std.proofs.lemmas.List.{nil_from_length}
use Rattle.om_state.specs.State.{updated}
use Rattle.om_foot.specs.Cells.{cells_from}
use Rattle.om_state.specs.Runs.{were_listed}
use Rattle.om_cells.proofs.SlotLemmas.{no_updates}
use Rattle.om_cells.proofs.slots.put_was.Goals as goal

pub returns-clause-written : goal.returns-clause-written
returns-clause-written c = λ slot s mirrors.
    let left = cells_from slot c.loop-each.index (c.args.count - c.loop-each.index) in
    sym (no_updates left (s c.loop-each.values.items))
    ∙ sym (ap (λ us. updated left (were_listed us) (s c.loop-each.values.items))
    (nil_from_length c.loop-each.each-iterator.rest.items
    (omega (arith, c.loop-each.each-iterator.rest.ok, c.in-None.ensures.steps.0))))
    ∙ c.loop-each.invariant.written slot s mirrors
