-- The operators before an operand, of which each has a function of its own.
use Rattle.std.specs.Prelude.{pos, Option, Some}
use Rattle.om_parser_tree.specs.declared.tree.AssignOperator.{AssignOperator}
use Rattle.om_scope_tree.specs.declared.resolved.UnaryOperator.{UnaryOperator}
use Rattle.om_scope_rules.specs.Perhaps.{◌>>=◌}
use Rattle.om_scope_rules.specs.Resolution.{TargetTree, assigned}
use Rattle.om_scope_tree.specs.ResolvedTree as resolved
use Rattle.om_scope_tree.specs.ResolvedTree.{ResolvedExpressionTree}

-- `++` or `--` before a target, as an assignment of 1
abbrev pub step_of : AssignOperator → Option TargetTree → Option ResolvedExpressionTree
step_of operator target = target >>= λ t. Some (assigned t operator (resolved.Constant (pos 1)))

abbrev pub unary_of : UnaryOperator → Option ResolvedExpressionTree → Option ResolvedExpressionTree
unary_of operator operand = operand >>= λ e. Some (resolved.Unary operator e)
