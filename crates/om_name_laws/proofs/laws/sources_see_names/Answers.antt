use Rattle.om_name_laws.proofs.Taken.{sources_see}
use Rattle.om_name_laws.proofs.laws.sources_see_names.Goals as goal

pub returns : goal.returns
returns c = sources_see c.places_stand_in_order.ensures.rise c.unbroken_trees_are_whole.ensures
