use Rattle.om_scope_laws.proofs.FunctionNames.{names_rise}
use Rattle.om_scope_laws.proofs.laws.function_names_rise.Goals as goal

pub returns : goal.returns
returns c = names_rise c.tokens_in_order.ensures.in_order
