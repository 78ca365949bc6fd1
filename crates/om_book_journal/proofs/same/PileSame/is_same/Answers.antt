use Rattle.std.proofs.Common.{arith}
use Rattle.std.proofs.lemmas.Grind.{common_steps}
use Rattle.om_book_journal.proofs.Lists.{same_reversed}
use Rattle.om_book_journal.proofs.same.PileSame.is_same.Goals as goal

pub returns : goal.returns
returns c = grind (arith, common_steps, same_reversed)
