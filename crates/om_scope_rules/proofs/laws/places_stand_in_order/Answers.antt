use Rattle.om_scope_rules.proofs.InOrder.{all_rise, places_stand}
use Rattle.om_scope_rules.proofs.UnitPlaces.{unit_among}
use Rattle.om_scope_rules.proofs.laws.places_stand_in_order.Goals as goal

pub returns : goal.returns
returns c =
    let in_order = c.tokens_in_order.ensures.in_order in
    record { rise = all_rise in_order; stand = places_stand in_order; at_tokens = unit_among }
