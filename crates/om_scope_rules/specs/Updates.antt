-- The updates of `atomic` (OpenMP API 5.2, section 4.3.1.3): target, operator, side and operand.
use Rattle.std.specs.Prelude.{pos, Option, None, Some, if◌then◌else◌}
use Rattle.om_lexer.specs.declared.token.Span.{Span}
use Rattle.om_scope_tree.specs.declared.resolved.Side.{Side}
use Rattle.om_scope_tree.specs.declared.resolved.Side.TheVariants as sides
use Rattle.om_scope_tree.specs.declared.resolved.UpdateOperator.{UpdateOperator}
use Rattle.om_scope_tree.specs.declared.resolved.UpdateOperator.TheVariants as updates
use Rattle.om_scope_tree.specs.declared.resolved.Variable as variables
use Rattle.om_scope_tree.specs.ResolvedTree as resolved
use Rattle.om_scope_tree.specs.ResolvedTree.{ResolvedExpressionTree, ResolvedUpdateTree, ResolvedStatementTree}
use Rattle.om_scope_rules.specs.Perhaps.{◌>>=◌}
use Rattle.om_parser_tree.specs.AtomicForms.{same_expression}
use Rattle.om_parser_tree.specs.declared.tree.AssignOperator.{AssignOperator}
use Rattle.om_parser_tree.specs.declared.tree.AssignOperator.TheVariants as assigns
use Rattle.om_parser_tree.specs.declared.tree.BinaryOperator.{BinaryOperator}
use Rattle.om_parser_tree.specs.declared.tree.BinaryOperator.TheVariants as binaries
use Rattle.om_parser_tree.specs.declared.tree.PostfixOperator.{PostfixOperator}
use Rattle.om_parser_tree.specs.declared.tree.PostfixOperator.TheVariants as postfixes
use Rattle.om_parser_tree.specs.Tree as trees
use Rattle.om_parser_tree.specs.Tree.{ExpressionTree, StatementTree}

-- ---- the side of the target, where it is assigned a value

-- `same_expression` tells `x` from `(x)`, so the target is found as it is written; any other value counts as Left
abbrev pub value_side : (target : ExpressionTree) → ExpressionTree → Side
value_side target (trees.Binary a o at b) = if same_expression target a then sides.Left else sides.Right
value_side target _ = sides.Left

abbrev pub expression_side : ExpressionTree → Side
expression_side (trees.Assign target o at value) = value_side target value
expression_side _ = sides.Left

abbrev pub statement_side : StatementTree → Side
statement_side (trees.Expression e semicolon) = expression_side e
statement_side _ = sides.Left

-- ---- what is done to the target

pub record Operation : Type 0 where
  pub operator : UpdateOperator
  pub side : Side
  pub operand : ResolvedExpressionTree

abbrev pub operation_of : UpdateOperator → Side → ResolvedExpressionTree → Operation
operation_of operator side operand = record { operator = operator; side = side; operand = operand }

abbrev pub binary_operator : BinaryOperator → Option UpdateOperator
binary_operator binaries.Add = Some updates.Add
binary_operator binaries.Subtract = Some updates.Subtract
binary_operator binaries.Multiply = Some updates.Multiply
binary_operator binaries.Divide = Some updates.Divide
binary_operator _ = None

-- the operand on the other side
abbrev pub other_operand : Side → ResolvedExpressionTree → ResolvedExpressionTree → ResolvedExpressionTree
other_operand sides.Left a b = b
other_operand sides.Right a b = a

abbrev pub value_operation : Side → ResolvedExpressionTree → Option Operation
value_operation side (resolved.Binary a o b) = binary_operator o >>= λ operator. Some
    (operation_of operator side (other_operand side a b))
value_operation side _ = None

-- `x op= e` has x on the left
abbrev pub operation : Side → AssignOperator → ResolvedExpressionTree → Option Operation
operation side assigns.Set value = value_operation side value
operation side assigns.Add value = Some (operation_of updates.Add sides.Left value)
operation side assigns.Subtract value = Some (operation_of updates.Subtract sides.Left value)
operation side assigns.Multiply value = Some (operation_of updates.Multiply sides.Left value)
operation side assigns.Divide value = Some (operation_of updates.Divide sides.Left value)
operation side assigns.Remainder value = None

-- `x++` adds 1
abbrev pub step_operator : PostfixOperator → UpdateOperator
step_operator postfixes.Increment = updates.Add
step_operator postfixes.Decrement = updates.Subtract

abbrev pub step_operation : PostfixOperator → Operation
step_operation o = operation_of (step_operator o) sides.Left (resolved.Constant (pos 1))

-- ---- updates

abbrev pub updated : Span → variables.Variable → (index : Option ResolvedExpressionTree) → Operation
    → ResolvedUpdateTree
updated at variable index found = record {
  at = at;
  variable = variable;
  index = index;
  operator = found.operator;
  side = found.side;
  operand = found.operand;
}

abbrev pub expression_update : Span → Side → ResolvedExpressionTree → Option ResolvedUpdateTree
expression_update at side (resolved.Assign v o e) = operation side o e >>= λ found. Some (updated at v None found)
expression_update at side (resolved.AssignElement v index o e) = operation side o e >>= λ found. Some
    (updated at v (Some index) found)
expression_update at side (resolved.Postfix v o) = Some (updated at v None (step_operation o))
expression_update at side (resolved.PostfixElement v index o) = Some (updated at v (Some index) (step_operation o))
expression_update at side _ = None

-- the update that a statement is, whose target stands on that side
abbrev pub update_of : Side → ResolvedStatementTree → Option ResolvedUpdateTree
update_of side (resolved.Expression at e) = expression_update at side e
update_of side _ = None
