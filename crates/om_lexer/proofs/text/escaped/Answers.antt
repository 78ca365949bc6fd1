use Rattle.std.proofs.Common.{rules}
use Rattle.om_lexer.specs.Texts.{escaped}
use Rattle.om_lexer.proofs.text.escaped.Goals as goal

pub returns-then-letter-eq110 : goal.returns-then-letter-eq110
unfolding escaped
returns-then-letter-eq110 c = search rules

pub returns-then-letter-eq116 : goal.returns-then-letter-eq116
unfolding escaped
returns-then-letter-eq116 c = search rules

pub returns-then-letter-eq92 : goal.returns-then-letter-eq92
unfolding escaped
returns-then-letter-eq92 c = search rules

pub returns-then-letter-eq34 : goal.returns-then-letter-eq34
unfolding escaped
returns-then-letter-eq34 c = search rules

pub returns-else-letter-eq34 : goal.returns-else-letter-eq34
unfolding escaped
returns-else-letter-eq34 c = search rules
