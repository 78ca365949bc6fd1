use Rattle.std.proofs.Common.{arith}
use Rattle.std.proofs.lemmas.Grind.{common_steps}
use Rattle.lab_explore_words.specs.Values.{ready_words}
use Rattle.lab_explore_words.proofs.value.push_ready.Goals as goal

pub returns : goal.returns
unfolding ready_words
returns c = grind (arith, common_steps)
