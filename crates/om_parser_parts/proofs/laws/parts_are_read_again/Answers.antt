use Rattle.om_parser_parts.proofs.PartsComplete.{parts_again}
use Rattle.om_parser_parts.proofs.laws.parts_are_read_again.Goals as goal

pub returns : goal.returns
returns c = parts_again c.one_answer.ensures.only c.one_answer.ensures.is_read c.one_expression.ensures
