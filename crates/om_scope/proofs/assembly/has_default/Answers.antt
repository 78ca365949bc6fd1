use Rattle.std.proofs.Common.{arith}
use Rattle.om_scope.proofs.Clauses.{has_clause_viewed}
use Rattle.om_scope.proofs.assembly.has_default.Goals as goal

pub returns : goal.returns
returns c = grind (arith, has_clause_viewed)
