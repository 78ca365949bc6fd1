use Rattle.std.proofs.Common.{arith}
use Rattle.std.proofs.lemmas.Bool.Decides.{nat_tests}
use Rattle.om_team_worksharing.proofs.chunk.block_size.Goals as goal

pub returns-then-from-count : goal.returns-then-from-count
returns-then-from-count c = grind (arith, nat_tests)
