-- An update has no more `printf`s than its statement.
use Rattle.std.proofs.Common.{ℕ, ◌+◌, ◌≤◌, arith}
use Rattle.std.specs.Prelude.{IfSome}
use Rattle.om_lexer.specs.declared.token.Span.{Span}
use Rattle.om_scope_tree.specs.declared.resolved.Side.{Side}
use Rattle.om_scope_tree.specs.declared.resolved.Side.TheVariants as sides
use Rattle.om_scope_tree.specs.ResolvedTree as resolved
use Rattle.om_scope_tree.specs.ResolvedTree.{ResolvedExpressionTree, ResolvedStatementTree, ResolvedUpdateTree}
use Rattle.om_scope_tree.specs.Weights.{expression_weight, statement_weight, update_weight}
use Rattle.om_scope_rules.proofs.Steps.{if_then}
use Rattle.om_scope_rules.proofs.StepsFrom.{if_behind}
use Rattle.om_scope_rules.specs.Updates.{Operation, binary_operator, expression_update, operation, other_operand, update_of}
use Rattle.om_scope_rules.specs.Updates.{value_operation}
use Rattle.om_parser_tree.specs.declared.tree.AssignOperator.{AssignOperator}
use Rattle.om_parser_tree.specs.declared.tree.AssignOperator.TheVariants as assigns

-- what is done to the target, and the update, have no more of them than that
abbrev OperationWithin : ℕ → Operation → Type 0
OperationWithin n found = expression_weight found.operand ≤ n

abbrev UpdateWithin : ℕ → ResolvedUpdateTree → Type 0
UpdateWithin n u = update_weight u ≤ n

operand_within : (side : Side) (a b : ResolvedExpressionTree)
    → expression_weight (other_operand side a b) ≤ expression_weight a + expression_weight b
operand_within sides.Left a b = omega arith
operand_within sides.Right a b = omega arith

value_within : (side : Side) (e : ResolvedExpressionTree)
    → IfSome (value_operation side e) (OperationWithin (expression_weight e))
unfolding expression_weight
value_within side (resolved.Binary a o b) =
    if_behind (OperationWithin (expression_weight a + expression_weight b)) (binary_operator o) _
    (λ operator. operand_within side a b)
value_within side (resolved.Constant value) = tt
value_within side (resolved.Variable v) = tt
value_within side (resolved.Element v index) = tt
value_within side (resolved.Call function vs) = tt
value_within side resolved.ThreadNumber = tt
value_within side resolved.TeamSize = tt
value_within side (resolved.Print format vs) = tt
value_within side (resolved.Unary o e) = tt
value_within side (resolved.Conditional c a b) = tt
value_within side (resolved.Assign v o e) = tt
value_within side (resolved.AssignElement v index o e) = tt
value_within side (resolved.Postfix v o) = tt
value_within side (resolved.PostfixElement v index o) = tt

operation_within : (side : Side) (o : AssignOperator) (e : ResolvedExpressionTree)
    → IfSome (operation side o e) (OperationWithin (expression_weight e))
operation_within side assigns.Set e = value_within side e
operation_within side assigns.Add e = omega arith
operation_within side assigns.Subtract e = omega arith
operation_within side assigns.Multiply e = omega arith
operation_within side assigns.Divide e = omega arith
operation_within side assigns.Remainder e = tt

expression_update_within : (at : Span) (side : Side) (e : ResolvedExpressionTree)
    → IfSome (expression_update at side e) (UpdateWithin (expression_weight e))
unfolding expression_weight
expression_update_within at side (resolved.Assign v o e) =
    let own = expression_weight e in
    if_then (OperationWithin own) (UpdateWithin own) (operation side o e) _ (operation_within side o e)
    (λ found h. omega (h, arith))
expression_update_within at side (resolved.AssignElement v index o e) =
    let own = expression_weight e in
    if_then (OperationWithin own) (UpdateWithin (expression_weight index + own)) (operation side o e) _
    (operation_within side o e) (λ found h. omega (h, arith))
expression_update_within at side (resolved.Postfix v o) = omega arith
expression_update_within at side (resolved.PostfixElement v index o) = omega arith
expression_update_within at side (resolved.Constant value) = tt
expression_update_within at side (resolved.Variable v) = tt
expression_update_within at side (resolved.Element v index) = tt
expression_update_within at side (resolved.Call function vs) = tt
expression_update_within at side resolved.ThreadNumber = tt
expression_update_within at side resolved.TeamSize = tt
expression_update_within at side (resolved.Print format vs) = tt
expression_update_within at side (resolved.Unary o e) = tt
expression_update_within at side (resolved.Binary a o b) = tt
expression_update_within at side (resolved.Conditional c a b) = tt

pub update_within : (side : Side) (s : ResolvedStatementTree)
    → IfSome (update_of side s) (λ u. update_weight u ≤ statement_weight s)
unfolding statement_weight
update_within side (resolved.Expression at e) = expression_update_within at side e
update_within side (resolved.Declaration at ds) = tt
update_within side (resolved.Block at items) = tt
update_within side (resolved.Empty at) = tt
update_within side (resolved.If at c s) = tt
update_within side (resolved.IfElse at c s t) = tt
update_within side (resolved.While at c s) = tt
update_within side (resolved.Do at s c) = tt
update_within side (resolved.For at start condition step s) = tt
update_within side (resolved.Return at value) = tt
update_within side (resolved.Break at) = tt
update_within side (resolved.Continue at) = tt
update_within side (resolved.Region at kind cs captures s) = tt
update_within side (resolved.Loop at cs nowait l s) = tt
update_within side (resolved.Sections at cs nowait parts) = tt
update_within side (resolved.Construct at kind cs s) = tt
update_within side (resolved.Update at u) = tt
update_within side (resolved.StandAlone at directive) = tt
