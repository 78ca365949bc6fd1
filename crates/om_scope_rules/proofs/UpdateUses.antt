-- An update uses what its statement does.
use Rattle.std.proofs.Common.{ℕ, Option, None, Some, List}
use Rattle.std.specs.Prelude.{IfSome}
use Rattle.om_lexer.specs.declared.token.Span.{Span}
use Rattle.om_pragma.specs.declared.tree.AtomicKind.{AtomicKind}
use Rattle.om_pragma.specs.declared.tree.AtomicKind.TheVariants as atomics
use Rattle.om_scope_tree.specs.declared.resolved.Side.{Side}
use Rattle.om_scope_tree.specs.declared.resolved.Side.TheVariants as sides
use Rattle.om_scope_tree.specs.ResolvedTree as resolved
use Rattle.om_scope_tree.specs.ResolvedTree.{ResolvedExpressionTree, ResolvedClauseTree, ResolvedUpdateTree}
use Rattle.om_scope_tree.specs.ResolvedTree.{ResolvedStatementTree}
use Rattle.om_scope_tree.specs.Uses.{UsesVariables, ClausesUseVariables, UpdateUsesVariables, StatementUsesVariables}
use Rattle.om_scope_rules.specs.StatementResolution.{with_update, atomic_of}
use Rattle.om_scope_rules.specs.Updates.{Operation, operation, operation_of, binary_operator, other_operand, value_operation}
use Rattle.om_scope_rules.specs.Updates.{expression_update, update_of}
use Rattle.om_scope_rules.proofs.Steps.{if_then, if_any}
use Rattle.om_parser_tree.specs.declared.tree.AssignOperator.{AssignOperator}
use Rattle.om_parser_tree.specs.declared.tree.AssignOperator.TheVariants as assigns

operand_uses : (n : ℕ) (side : Side) (a b : ResolvedExpressionTree) → UsesVariables n a → UsesVariables n b
    → UsesVariables n (other_operand side a b)
operand_uses n sides.Left a b ha hb = hb
operand_uses n sides.Right a b ha hb = ha

abbrev OperationUsesVariables : ℕ → Operation → Type 0
OperationUsesVariables n found = UsesVariables n found.operand

value_uses : (n : ℕ) (side : Side) (e : ResolvedExpressionTree) → UsesVariables n e
    → IfSome (value_operation side e) (OperationUsesVariables n)
value_uses n side (resolved.Binary a o b) h =
    if_then (λ operator. Unit {0}) (OperationUsesVariables n) (binary_operator o)
    (λ operator. Some (operation_of operator side (other_operand side a b))) (if_any (binary_operator o))
    (λ operator u. operand_uses n side a b h.0 h.1)
value_uses n side (resolved.Constant value) h = tt
value_uses n side (resolved.Variable v) h = tt
value_uses n side (resolved.Element v index) h = tt
value_uses n side (resolved.Call function vs) h = tt
value_uses n side resolved.ThreadNumber h = tt
value_uses n side resolved.TeamSize h = tt
value_uses n side (resolved.Print format vs) h = tt
value_uses n side (resolved.Unary o e) h = tt
value_uses n side (resolved.Conditional c a b) h = tt
value_uses n side (resolved.Assign v o e) h = tt
value_uses n side (resolved.AssignElement v index o e) h = tt
value_uses n side (resolved.Postfix v o) h = tt
value_uses n side (resolved.PostfixElement v index o) h = tt

operation_uses : (n : ℕ) (side : Side) (o : AssignOperator) (e : ResolvedExpressionTree) → UsesVariables n e
    → IfSome (operation side o e) (OperationUsesVariables n)
operation_uses n side assigns.Set e h = value_uses n side e h
operation_uses n side assigns.Add e h = h
operation_uses n side assigns.Subtract e h = h
operation_uses n side assigns.Multiply e h = h
operation_uses n side assigns.Divide e h = h
operation_uses n side assigns.Remainder e h = tt

expression_update_uses : (n : ℕ) (at : Span) (side : Side) (e : ResolvedExpressionTree) → UsesVariables n e
    → IfSome (expression_update at side e) (UpdateUsesVariables n)
expression_update_uses n at side (resolved.Assign v o e) h =
    if_then (OperationUsesVariables n) (UpdateUsesVariables n) (operation side o e) _
    (operation_uses n side o e h.1) (λ found hf. (h.0, tt, hf))
expression_update_uses n at side (resolved.AssignElement v index o e) h =
    if_then (OperationUsesVariables n) (UpdateUsesVariables n) (operation side o e) _
    (operation_uses n side o e h.2) (λ found hf. (h.0, h.1, hf))
expression_update_uses n at side (resolved.Postfix v o) h = (h, tt, tt)
expression_update_uses n at side (resolved.PostfixElement v index o) h = (h.0, h.1, tt)
expression_update_uses n at side (resolved.Constant value) h = tt
expression_update_uses n at side (resolved.Variable v) h = tt
expression_update_uses n at side (resolved.Element v index) h = tt
expression_update_uses n at side (resolved.Call function vs) h = tt
expression_update_uses n at side resolved.ThreadNumber h = tt
expression_update_uses n at side resolved.TeamSize h = tt
expression_update_uses n at side (resolved.Print format vs) h = tt
expression_update_uses n at side (resolved.Unary o e) h = tt
expression_update_uses n at side (resolved.Binary a o b) h = tt
expression_update_uses n at side (resolved.Conditional c a b) h = tt

update_uses : (n : ℕ) (side : Side) (s : ResolvedStatementTree) → StatementUsesVariables n s
    → IfSome (update_of side s) (UpdateUsesVariables n)
update_uses n side (resolved.Expression at e) h = expression_update_uses n at side e h
update_uses n side (resolved.Declaration at ds) h = tt
update_uses n side (resolved.Block at items) h = tt
update_uses n side (resolved.Empty at) h = tt
update_uses n side (resolved.If at c s) h = tt
update_uses n side (resolved.IfElse at c s t) h = tt
update_uses n side (resolved.While at c s) h = tt
update_uses n side (resolved.Do at s c) h = tt
update_uses n side (resolved.For at start condition step s) h = tt
update_uses n side (resolved.Return at value) h = tt
update_uses n side (resolved.Break at) h = tt
update_uses n side (resolved.Continue at) h = tt
update_uses n side (resolved.Region at kind cs captures s) h = tt
update_uses n side (resolved.Loop at cs nowait l s) h = tt
update_uses n side (resolved.Sections at cs nowait parts) h = tt
update_uses n side (resolved.Construct at kind cs s) h = tt
update_uses n side (resolved.Update at u) h = tt
update_uses n side (resolved.StandAlone at directive) h = tt

with_update_uses : (n : ℕ) (at : Span) (update : Option ResolvedUpdateTree) → IfSome update (UpdateUsesVariables n)
    → IfSome (with_update at update) (StatementUsesVariables n)
with_update_uses n at None h = tt
with_update_uses n at (Some update) h = h

pub atomic_uses : (n : ℕ) (kind : AtomicKind) (side : Side) (at : Span) (cs : List ResolvedClauseTree)
    (body : ResolvedStatementTree)
    → ClausesUseVariables n cs → StatementUsesVariables n body
    → IfSome (atomic_of kind side at cs body) (StatementUsesVariables n)
atomic_uses n atomics.Update side at cs body hc h = with_update_uses n at (update_of side body)
    (update_uses n side body h)
atomic_uses n atomics.Read side at cs body hc h = (hc, h)
atomic_uses n atomics.Write side at cs body hc h = (hc, h)
