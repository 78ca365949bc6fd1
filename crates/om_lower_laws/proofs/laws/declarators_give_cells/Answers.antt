use Rattle.om_lower_laws.proofs.DeclaredCells.{declared_cells}
use Rattle.om_lower_laws.proofs.laws.declarators_give_cells.Goals as goal

pub returns : goal.returns
returns c = declared_cells c.places_stand_in_order.ensures.rise
