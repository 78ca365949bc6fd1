use Rattle.om_scope_laws.proofs.UnitBreaches.{first_breach_is_least}
use Rattle.om_scope_laws.proofs.laws.first_breach_is_least.Goals as goal

pub returns : goal.returns
returns c = first_breach_is_least c.tokens_in_order.ensures.in_order
