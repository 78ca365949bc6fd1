use Rattle.om_scope_rules.proofs.Spelled.{names_stand_behind}
use Rattle.om_scope_rules.proofs.laws.names_stand_behind.Goals as goal

pub returns : goal.returns
returns c = names_stand_behind c.tokens_in_order.ensures.in_order
