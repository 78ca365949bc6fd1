use Rattle.std.proofs.Common.{rules}
use Rattle.om_lexer.specs.Characters.{is_blank}
use Rattle.om_lexer.proofs.character.is_blank.Goals as goal

pub returns-then-byte-eq9 : goal.returns-then-byte-eq9
unfolding is_blank
returns-then-byte-eq9 c = search rules

pub returns-else-byte-eq9 : goal.returns-else-byte-eq9
unfolding is_blank
returns-else-byte-eq9 c = search rules
