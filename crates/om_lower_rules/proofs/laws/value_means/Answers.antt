use Rattle.om_lower_rules.proofs.Expressions.{value_means}
use Rattle.om_lower_rules.proofs.laws.value_means.Goals as goal

pub returns : goal.returns
returns c = λ raw body at same e l p q s w g h. value_means raw body at same e l g p q s w h
