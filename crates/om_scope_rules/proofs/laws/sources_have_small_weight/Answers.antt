use Rattle.om_scope_rules.proofs.TokenCounts.{small_weight}
use Rattle.om_scope_rules.proofs.laws.sources_have_small_weight.Goals as goal

pub returns : goal.returns
returns c = small_weight c.tokens_in_order.ensures.in_order c.tokens_in_order.ensures.whole
