-- The tree of what is assigned to, and what is answered where no such thing stands.
use Rattle.std.specs.Prelude.{Option}
use Rattle.om_lexer.specs.declared.fault.SourceFault.{SourceFault}
use Rattle.om_parser_tree.specs.declared.tree.Expression.{Expression}
use Rattle.om_parser_tree.specs.View.{view_expression}
use Rattle.om_scope_parts.specs.declared.target.Target.{Target}
use Rattle.om_scope_parts.specs.declared.target.Target.TheVariants as targets
use Rattle.om_scope_rules.specs.ExpressionRules.{misplaced_breaches}
use Rattle.om_scope_rules.specs.Faults.{first_of}
use Rattle.om_scope_rules.specs.Resolution.{TargetTree, Scalar, ElementOf}
use Rattle.om_scope_rules.specs.Scopes.{Scopes}
use Rattle.om_scope_tree.specs.ResolvedView as view

abbrev pub view_target : Target → TargetTree
view_target (targets.Variable variable) = Scalar variable
view_target (targets.Element variable index) = ElementOf variable (view.expression index.value)

-- the first breach of an expression that can't stand where it does
abbrev pub first_misplaced : Scopes → Expression → Option SourceFault
first_misplaced scopes e = first_of (misplaced_breaches scopes (view_expression e))
