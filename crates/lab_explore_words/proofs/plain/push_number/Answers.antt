use Rattle.std.proofs.Common.{rules, arith}
use Rattle.std.proofs.lemmas.Bool.Decides.{nat_tests}
use Rattle.std.proofs.lemmas.Grind.{common_steps}
use Rattle.lab_explore_words.specs.Lists.{number_words}
use Rattle.lab_explore_words.proofs.plain.push_number.Goals as goal

pub returns-then-number-lt-LONG : goal.returns-then-number-lt-LONG
unfolding number_words
returns-then-number-lt-LONG c = search rules

pub returns : goal.returns
unfolding number_words
returns c = grind (arith, common_steps, nat_tests)
