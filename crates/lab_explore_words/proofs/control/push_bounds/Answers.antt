use Rattle.std.proofs.Common.{arith}
use Rattle.std.proofs.lemmas.Grind.{common_steps}
use Rattle.lab_explore_words.specs.Words.{bounds_words}
use Rattle.lab_explore_words.proofs.control.push_bounds.Goals as goal

pub returns : goal.returns
unfolding bounds_words
returns c = grind (arith, common_steps)
