use Rattle.std.proofs.Common.{length}
use Rattle.om_parser_parts.specs.ExpressionReading.{chain_at, postfix_more}
use Rattle.om_parser_tree.specs.View.{view_expression}
use Rattle.om_parser_parts.proofs.Chains.{GoesOn}
use Rattle.om_parser_parts.proofs.expression.postfixes.Given as goal

abbrev pub invariant-loop-operator : goal.invariant-loop-operator
invariant-loop-operator l = GoesOn (postfix_more l.beyond) (view_expression l.left.value) l.rest
    (chain_at (postfix_more l.beyond) (length l.tokens) (view_expression l.fn.operand.value) l.tokens)

abbrev pub decreases-loop-operator : goal.decreases-loop-operator
decreases-loop-operator l = length l.rest
