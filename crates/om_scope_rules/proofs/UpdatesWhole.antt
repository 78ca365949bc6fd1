-- An update whose statement is whole is whole.
use Rattle.std.proofs.Common.{true, false, Some}
use Rattle.std.specs.Prelude.{IfSome}
use Rattle.om_lexer.specs.declared.token.Span.{Span}
use Rattle.om_scope_tree.specs.declared.resolved.Side.{Side}
use Rattle.om_scope_tree.specs.declared.resolved.Side.TheVariants as sides
use Rattle.om_scope_tree.specs.ResolvedTree as resolved
use Rattle.om_scope_tree.specs.ResolvedTree.{ResolvedExpressionTree, ResolvedStatementTree}
use Rattle.om_scope_tree.specs.Whole.{Around, IsWhole, IsWholeUpdate, IsWholeStatement}
use Rattle.om_scope_rules.specs.Updates.{Operation, operation, operation_of, binary_operator, other_operand, value_operation}
use Rattle.om_scope_rules.specs.Updates.{expression_update, update_of}
use Rattle.om_scope_rules.proofs.Steps.{if_then, if_any}
use Rattle.om_parser_tree.specs.declared.tree.AssignOperator.{AssignOperator}
use Rattle.om_parser_tree.specs.declared.tree.AssignOperator.TheVariants as assigns

whole_operand : (around : Around) (side : Side) (a b : ResolvedExpressionTree) → IsWhole around true a
    → IsWhole around true b → IsWhole around true (other_operand side a b)
whole_operand around sides.Left a b ha hb = hb
whole_operand around sides.Right a b ha hb = ha

abbrev IsWholeOperation : Around → Operation → Type 0
IsWholeOperation around found = IsWhole around true found.operand

whole_value : (around : Around) (side : Side) (e : ResolvedExpressionTree) → IsWhole around true e
    → IfSome (value_operation side e) (IsWholeOperation around)
whole_value around side (resolved.Binary a o b) h =
    if_then (λ operator. Unit {0}) (IsWholeOperation around) (binary_operator o)
    (λ operator. Some (operation_of operator side (other_operand side a b))) (if_any (binary_operator o))
    (λ operator u. whole_operand around side a b h.0 h.1)
whole_value around side (resolved.Constant value) h = tt
whole_value around side (resolved.Variable v) h = tt
whole_value around side (resolved.Element v index) h = tt
whole_value around side (resolved.Call function vs) h = tt
whole_value around side resolved.ThreadNumber h = tt
whole_value around side resolved.TeamSize h = tt
whole_value around side (resolved.Print format vs) h = tt
whole_value around side (resolved.Unary o e) h = tt
whole_value around side (resolved.Conditional c a b) h = tt
whole_value around side (resolved.Assign v o e) h = tt
whole_value around side (resolved.AssignElement v index o e) h = tt
whole_value around side (resolved.Postfix v o) h = tt
whole_value around side (resolved.PostfixElement v index o) h = tt

whole_operation : (around : Around) (side : Side) (o : AssignOperator) (e : ResolvedExpressionTree)
    → IsWhole around true e → IfSome (operation side o e) (IsWholeOperation around)
whole_operation around side assigns.Set e h = whole_value around side e h
whole_operation around side assigns.Add e h = h
whole_operation around side assigns.Subtract e h = h
whole_operation around side assigns.Multiply e h = h
whole_operation around side assigns.Divide e h = h
whole_operation around side assigns.Remainder e h = tt

whole_expression_update : (around : Around) (at : Span) (side : Side) (e : ResolvedExpressionTree)
    → IsWhole around false e → IfSome (expression_update at side e) (IsWholeUpdate around)
whole_expression_update around at side (resolved.Assign v o e) h =
    if_then (IsWholeOperation around) (IsWholeUpdate around) (operation side o e) _
    (whole_operation around side o e h.1) (λ found hf. record { target = h.0; operand = hf })
whole_expression_update around at side (resolved.AssignElement v index o e) h =
    if_then (IsWholeOperation around) (IsWholeUpdate around) (operation side o e) _
    (whole_operation around side o e h.2) (λ found hf. record { target = (h.0, h.1); operand = hf })
whole_expression_update around at side (resolved.Postfix v o) h = record { target = h; operand = tt }
whole_expression_update around at side (resolved.PostfixElement v index o) h = record
    { target = (h.0, h.1); operand = tt }
whole_expression_update around at side (resolved.Constant value) h = tt
whole_expression_update around at side (resolved.Variable v) h = tt
whole_expression_update around at side (resolved.Element v index) h = tt
whole_expression_update around at side (resolved.Call function vs) h = tt
whole_expression_update around at side resolved.ThreadNumber h = tt
whole_expression_update around at side resolved.TeamSize h = tt
whole_expression_update around at side (resolved.Print format vs) h = tt
whole_expression_update around at side (resolved.Unary o e) h = tt
whole_expression_update around at side (resolved.Binary a o b) h = tt
whole_expression_update around at side (resolved.Conditional c a b) h = tt

pub whole_update : (around : Around) (side : Side) (s : ResolvedStatementTree) → IsWholeStatement around s
    → IfSome (update_of side s) (IsWholeUpdate around)
whole_update around side (resolved.Expression at e) h = whole_expression_update around at side e h
whole_update around side (resolved.Declaration at ds) h = tt
whole_update around side (resolved.Block at items) h = tt
whole_update around side (resolved.Empty at) h = tt
whole_update around side (resolved.If at c s) h = tt
whole_update around side (resolved.IfElse at c s t) h = tt
whole_update around side (resolved.While at c s) h = tt
whole_update around side (resolved.Do at s c) h = tt
whole_update around side (resolved.For at start condition step s) h = tt
whole_update around side (resolved.Return at value) h = tt
whole_update around side (resolved.Break at) h = tt
whole_update around side (resolved.Continue at) h = tt
whole_update around side (resolved.Region at kind cs captures s) h = tt
whole_update around side (resolved.Loop at cs nowait l s) h = tt
whole_update around side (resolved.Sections at cs nowait parts) h = tt
whole_update around side (resolved.Construct at kind cs s) h = tt
whole_update around side (resolved.Update at u) h = tt
whole_update around side (resolved.StandAlone at directive) h = tt
