-- What is done to the target of an update, as trees.
use Rattle.std.specs.Prelude.{Option, option_map}
use Rattle.om_lexer.specs.declared.token.Span.{Span}
use Rattle.om_scope_tree.specs.declared.resolved.ResolvedExpression.{ResolvedExpression}
use Rattle.om_scope_tree.specs.declared.resolved.ResolvedUpdate.{ResolvedUpdate}
use Rattle.om_scope_tree.specs.declared.resolved.Side.{Side}
use Rattle.om_scope_tree.specs.declared.resolved.Variable as variables
use Rattle.om_scope_tree.specs.ResolvedTree.{ResolvedExpressionTree, ResolvedUpdateTree}
use Rattle.om_scope_tree.specs.ResolvedView as view
use Rattle.om_scope_rules.specs.declared.update.Operation as operations
use Rattle.om_scope_rules.specs.Updates.{Operation, expression_update, other_operand, updated}

abbrev pub view_operation : operations.Operation → Operation
view_operation o = record { operator = o.operator; side = o.side; operand = view.expression o.operand }

-- the same, where something is done to it
abbrev pub view_perhaps_operation : Option operations.Operation → Option Operation
view_perhaps_operation found = option_map view_operation found

-- the update that is made of it, if one is
abbrev pub view_perhaps_update : Option ResolvedUpdate → Option ResolvedUpdateTree
view_perhaps_update made = option_map view.update made

-- of the two operands of an operator, the one on the other side
abbrev pub operand_beside : Side → (left right : ResolvedExpression) → ResolvedExpressionTree
operand_beside side left right = other_operand side (view.expression left) (view.expression right)

-- the update that does this to a variable, or to the element of an array at an index
abbrev pub updated_by : Span → variables.Variable → (index : Option ResolvedExpression) → operations.Operation
    → ResolvedUpdateTree
updated_by at variable index found = updated at variable (option_map view.expression index) (view_operation found)

-- the update that an expression is, whose target stands on this side
abbrev pub update_in : Span → Side → ResolvedExpression → Option ResolvedUpdateTree
update_in at side expression = expression_update at side (view.expression expression)
