use Rattle.om_parser_parts.proofs.PartsSound.{parts_sound}
use Rattle.om_parser_parts.proofs.laws.parts_are_sound.Goals as goal

pub returns : goal.returns
returns c = parts_sound c.one_answer.ensures.is_read c.one_expression.ensures
