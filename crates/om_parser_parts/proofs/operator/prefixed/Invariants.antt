use Rattle.std.proofs.Common.{◌≡◌, length}
use Rattle.om_parser_parts.specs.ExpressionReading.{prefixed}
use Rattle.om_parser_tree.specs.View.{view_expression}
use Rattle.om_parser_parts.proofs.operator.prefixed.Given as goal

-- behind the operators that are left it is the whole
abbrev pub invariant-loop-operator : goal.invariant-loop-operator
invariant-loop-operator l = prefixed l.outer.items (view_expression l.made.value) ≡ prefixed l.fn.operators.items
    (view_expression l.fn.operand.value)

abbrev pub decreases-loop-operator : goal.decreases-loop-operator
decreases-loop-operator l = length l.outer.items
