use Rattle.std.proofs.Common.{◌∙◌, sym}
use Rattle.om_cells.proofs.SlotLemmas.{known_in}
use Rattle.om_cells.proofs.slots.know.Goals as goal

pub returns-clause-same : goal.returns-clause-same
returns-clause-same c = known_in c.args.cells.now.slot c.in_ok-place.place c.args.slots.now.entries
    c.insert.new.self.entries c.in_ok-place.ensures (sym c.contains_key.ensures ∙ c.if-contains_key.false)
    c.in_ok-insert.ensures.updates.0
