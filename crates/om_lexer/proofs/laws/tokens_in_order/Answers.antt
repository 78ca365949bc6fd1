use Rattle.om_lexer.proofs.Order.{in_order, whole, ends_last}
use Rattle.om_lexer.proofs.laws.tokens_in_order.Goals as goal

pub returns : goal.returns
returns c = record { in_order = in_order; whole = whole; ends_last = ends_last }
