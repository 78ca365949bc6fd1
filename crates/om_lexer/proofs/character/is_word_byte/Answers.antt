use Rattle.std.proofs.Common.{rules}
use Rattle.om_lexer.specs.Characters.{is_word_byte}
use Rattle.om_lexer.proofs.character.is_word_byte.Goals as goal

pub returns-then-is_ascii_alphanumeric : goal.returns-then-is_ascii_alphanumeric
unfolding is_word_byte
returns-then-is_ascii_alphanumeric c = search rules

pub returns-else-is_ascii_alphanumeric : goal.returns-else-is_ascii_alphanumeric
unfolding is_word_byte
returns-else-is_ascii_alphanumeric c = search rules
