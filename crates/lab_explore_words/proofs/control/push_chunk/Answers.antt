use Rattle.std.proofs.Common.{arith}
use Rattle.std.proofs.lemmas.Grind.{common_steps}
use Rattle.lab_explore_words.specs.Words.{chunk_words}
use Rattle.lab_explore_words.proofs.control.push_chunk.Goals as goal

pub returns : goal.returns
unfolding chunk_words
returns c = grind (arith, common_steps)
