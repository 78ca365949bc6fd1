use Rattle.std.proofs.Common.{arith}
use Rattle.std.proofs.lemmas.Grind.{common_steps}
use Rattle.lab_explore_words.specs.Words.{context_words}
use Rattle.lab_explore_words.proofs.control.push_context.Goals as goal

pub returns : goal.returns
unfolding context_words
returns c = grind (arith, common_steps)
