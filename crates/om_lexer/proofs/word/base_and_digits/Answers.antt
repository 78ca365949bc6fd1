use Rattle.std.proofs.Common.{rules, arith}
use Rattle.std.proofs.lemmas.Grind.{common_steps}
use Rattle.om_lexer.specs.Constants.{base_of, digits_of}
use Rattle.om_lexer.proofs.word.base_and_digits.Goals as goal

pub returns-then-starts_with-clause-base : goal.returns-then-starts_with-clause-base
unfolding base_of
returns-then-starts_with-clause-base c = search rules

pub returns-then-starts_with-2-clause-base : goal.returns-then-starts_with-2-clause-base
unfolding base_of
returns-then-starts_with-2-clause-base c = search rules

pub returns-then-starts_with-2-clause-digits : goal.returns-then-starts_with-2-clause-digits
unfolding digits_of
returns-then-starts_with-2-clause-digits c = search rules

pub returns-else-starts_with-2-clause-base : goal.returns-else-starts_with-2-clause-base
unfolding base_of
returns-else-starts_with-2-clause-base c = search rules

pub returns-else-starts_with-2-clause-digits : goal.returns-else-starts_with-2-clause-digits
unfolding digits_of
returns-else-starts_with-2-clause-digits c = search rules

pub returns-then-starts_with-clause-digits : goal.returns-then-starts_with-clause-digits
unfolding digits_of
returns-then-starts_with-clause-digits c = grind (arith, common_steps)
