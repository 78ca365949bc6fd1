-- An update of an `atomic` sees what its statement does.
use Rattle.std.proofs.Common.{Some, List}
use Rattle.std.specs.Prelude.{IfSome}
use Rattle.om_lexer.specs.declared.token.Span.{Span}
use Rattle.om_scope_tree.specs.declared.resolved.Side.{Side}
use Rattle.om_scope_tree.specs.declared.resolved.Side.TheVariants as sides
use Rattle.om_scope_tree.specs.ResolvedTree as resolved
use Rattle.om_scope_tree.specs.ResolvedTree.{ResolvedExpressionTree}
use Rattle.om_scope_tree.specs.ResolvedTree.{ResolvedStatementTree}
use Rattle.om_scope_tree.specs.declared.resolved.GlobalVariable.{GlobalVariable}
use Rattle.om_scope_rules.specs.Updates.{Operation, operation, operation_of, binary_operator, other_operand}
use Rattle.om_scope_rules.specs.Updates.{value_operation}
use Rattle.om_scope_rules.specs.Updates.{expression_update, update_of}
use Rattle.om_name_laws.specs.Sees.{Known, EachUse, IsSeen, StatementSees, UpdateSees}
use Rattle.om_name_laws.proofs.Known.{Anything}
use Rattle.om_name_laws.proofs.Steps.{if_then, if_any}
use Rattle.om_parser_tree.specs.declared.tree.AssignOperator.{AssignOperator}
use Rattle.om_parser_tree.specs.declared.tree.AssignOperator.TheVariants as assigns

operand_uses : (globals : List GlobalVariable) (ks : List Known) (side : Side) (a b : ResolvedExpressionTree) → EachUse
    (IsSeen globals ks) a → EachUse (IsSeen globals ks) b
    → EachUse (IsSeen globals ks) (other_operand side a b)
operand_uses globals ks sides.Left a b ha hb = hb
operand_uses globals ks sides.Right a b ha hb = ha

abbrev OperationSees : List GlobalVariable → List Known → Operation → Type 0
OperationSees globals ks found = EachUse (IsSeen globals ks) found.operand

value_uses : (globals : List GlobalVariable) (ks : List Known) (side : Side) (e : ResolvedExpressionTree) → EachUse
    (IsSeen globals ks) e
    → IfSome (value_operation side e) (OperationSees globals ks)
value_uses globals ks side (resolved.Binary a o b) h =
    if_then (λ operator. Unit {0}) (OperationSees globals ks) (binary_operator o)
    (λ operator. Some (operation_of operator side (other_operand side a b))) (if_any (binary_operator o))
    (λ operator u. operand_uses globals ks side a b h.0 h.1)
value_uses globals ks side (resolved.Constant value) h = tt
value_uses globals ks side (resolved.Variable v) h = tt
value_uses globals ks side (resolved.Element v index) h = tt
value_uses globals ks side (resolved.Call function vs) h = tt
value_uses globals ks side resolved.ThreadNumber h = tt
value_uses globals ks side resolved.TeamSize h = tt
value_uses globals ks side (resolved.Print format vs) h = tt
value_uses globals ks side (resolved.Unary o e) h = tt
value_uses globals ks side (resolved.Conditional c a b) h = tt
value_uses globals ks side (resolved.Assign v o e) h = tt
value_uses globals ks side (resolved.AssignElement v index o e) h = tt
value_uses globals ks side (resolved.Postfix v o) h = tt
value_uses globals ks side (resolved.PostfixElement v index o) h = tt

operation_uses : (globals : List GlobalVariable) (ks : List Known) (side : Side) (o : AssignOperator)
    (e : ResolvedExpressionTree) → EachUse (IsSeen globals ks) e
    → IfSome (operation side o e) (OperationSees globals ks)
operation_uses globals ks side assigns.Set e h = value_uses globals ks side e h
operation_uses globals ks side assigns.Add e h = h
operation_uses globals ks side assigns.Subtract e h = h
operation_uses globals ks side assigns.Multiply e h = h
operation_uses globals ks side assigns.Divide e h = h
operation_uses globals ks side assigns.Remainder e h = tt

expression_update_uses : (globals : List GlobalVariable) (ks : List Known) (at : Span) (side : Side)
    (e : ResolvedExpressionTree) → EachUse (IsSeen globals ks) e
    → IfSome (expression_update at side e) (UpdateSees globals ks)
expression_update_uses globals ks at side (resolved.Assign v o e) h =
    if_then (OperationSees globals ks) (UpdateSees globals ks) (operation side o e) _
    (operation_uses globals ks side o e h.1) (λ found hf. (h.0, tt, hf))
expression_update_uses globals ks at side (resolved.AssignElement v index o e) h =
    if_then (OperationSees globals ks) (UpdateSees globals ks) (operation side o e) _
    (operation_uses globals ks side o e h.2) (λ found hf. (h.0, h.1, hf))
expression_update_uses globals ks at side (resolved.Postfix v o) h = (h, tt, tt)
expression_update_uses globals ks at side (resolved.PostfixElement v index o) h = (h.0, h.1, tt)
expression_update_uses globals ks at side (resolved.Constant value) h = tt
expression_update_uses globals ks at side (resolved.Variable v) h = tt
expression_update_uses globals ks at side (resolved.Element v index) h = tt
expression_update_uses globals ks at side (resolved.Call function vs) h = tt
expression_update_uses globals ks at side resolved.ThreadNumber h = tt
expression_update_uses globals ks at side resolved.TeamSize h = tt
expression_update_uses globals ks at side (resolved.Print format vs) h = tt
expression_update_uses globals ks at side (resolved.Unary o e) h = tt
expression_update_uses globals ks at side (resolved.Binary a o b) h = tt
expression_update_uses globals ks at side (resolved.Conditional c a b) h = tt

pub update_uses : (globals : List GlobalVariable) (ks : List Known) (side : Side) (s : ResolvedStatementTree) →
    StatementSees Anything globals ks s
    → IfSome (update_of side s) (UpdateSees globals ks)
update_uses globals ks side (resolved.Expression at e) h = expression_update_uses globals ks at side e h
update_uses globals ks side (resolved.Declaration at ds) h = tt
update_uses globals ks side (resolved.Block at items) h = tt
update_uses globals ks side (resolved.Empty at) h = tt
update_uses globals ks side (resolved.If at c s) h = tt
update_uses globals ks side (resolved.IfElse at c s t) h = tt
update_uses globals ks side (resolved.While at c s) h = tt
update_uses globals ks side (resolved.Do at s c) h = tt
update_uses globals ks side (resolved.For at start condition step s) h = tt
update_uses globals ks side (resolved.Return at value) h = tt
update_uses globals ks side (resolved.Break at) h = tt
update_uses globals ks side (resolved.Continue at) h = tt
update_uses globals ks side (resolved.Region at kind cs captures s) h = tt
update_uses globals ks side (resolved.Loop at cs nowait l s) h = tt
update_uses globals ks side (resolved.Sections at cs nowait parts) h = tt
update_uses globals ks side (resolved.Construct at kind cs s) h = tt
update_uses globals ks side (resolved.Update at u) h = tt
update_uses globals ks side (resolved.StandAlone at directive) h = tt
