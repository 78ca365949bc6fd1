use Rattle.std.proofs.Common.{arith}
use Rattle.std.proofs.lemmas.Grind.{common_steps}
use Rattle.lab_explore_words.specs.Lists.{long_words}
use Rattle.lab_explore_words.proofs.plain.push_long.Goals as goal

pub returns : goal.returns
unfolding long_words
returns c = grind (arith, common_steps)
