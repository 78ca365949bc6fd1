use Rattle.std.proofs.Common.{length}
use Rattle.om_parser_parts.proofs.Prefixes.{GoesOnBehind}
use Rattle.om_parser_parts.proofs.expression.prefixes.Given as goal

abbrev pub invariant-loop-operator : goal.invariant-loop-operator
invariant-loop-operator l = GoesOnBehind l.beyond l.turns l.tokens l.operators.items l.left l.rest

abbrev pub decreases-loop-operator : goal.decreases-loop-operator
decreases-loop-operator l = length l.rest
