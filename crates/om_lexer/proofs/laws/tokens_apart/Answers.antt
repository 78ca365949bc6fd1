use Rattle.om_lexer.proofs.Order.{apart, starts_rise}
use Rattle.om_lexer.proofs.laws.tokens_apart.Goals as goal

pub returns : goal.returns
returns c = record { apart = apart; starts_rise = starts_rise }
