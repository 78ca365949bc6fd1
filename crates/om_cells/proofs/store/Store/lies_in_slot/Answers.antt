use Rattle.std.proofs.Common.{◌∙◌, sym}
use Rattle.om_cells.proofs.CellStates.{lies_single, lies_there}
use Rattle.om_cells.proofs.store.Store.lies_in_slot.Goals as goal

pub returns-in-Some : goal.returns-in-Some
returns-in-Some c = lies_single c.in-Some.field-0.now _ _ c.in-Some.ensures

pub returns-in-None : goal.returns-in-None
returns-in-None c = lies_there _ _ (sym c.holds.ensures ∙ c.if-not-holds.false) c.in-None.ensures
