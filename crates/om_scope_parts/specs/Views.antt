-- Views of parts of a tree that have none of their own, and what is promised of expressions by them.
use Rattle.std.specs.Global.{Box}
use Rattle.std.specs.Prelude.{Bool, List, Result, Vec, map}
use Rattle.std.specs.declared.alloc.Global.{Global}
use Rattle.om_lexer.specs.declared.fault.SourceFault.{SourceFault}
use Rattle.om_parser_tree.specs.declared.tree.Expression.{Expression}
use Rattle.om_parser_tree.specs.View.{view_expression}
use Rattle.om_scope_tree.specs.declared.resolved.ResolvedExpression.{ResolvedExpression}
use Rattle.om_scope_tree.specs.ResolvedTree as trees
use Rattle.om_scope_tree.specs.ResolvedTree.{ResolvedExpressionTree, ValuesTree}
use Rattle.om_scope_tree.specs.ResolvedView as view
use Rattle.om_scope_rules.specs.Checks.{Checks}
use Rattle.om_scope_rules.specs.ExpressionRules.{expression_breaches}
use Rattle.om_scope_rules.specs.Loops.{Loop}
use Rattle.om_scope_rules.specs.Outcomes.{Finds}
use Rattle.om_scope_rules.specs.Resolution.{resolved_expression}
use Rattle.om_scope_rules.specs.Resolves.{Resolves}
use Rattle.om_scope_rules.specs.Scopes.{Scopes}

-- a resolved expression in a box
abbrev pub view_boxed : Box ResolvedExpression → ResolvedExpressionTree
view_boxed boxed = view.expression boxed.value

-- the resolved values of a call
abbrev pub view_values : Vec ResolvedExpression Global → ValuesTree
view_values values = trees.values (map view.expression values.items)

-- an expression is refused, or resolved and seen so; `for_value` says whether its value is used
abbrev pub ResolvesExpression : {X : Type 0} → (X → ResolvedExpressionTree) → Result X SourceFault → Scopes → Bool
    → Expression → Type 0
ResolvesExpression seen result scopes for_value e = Resolves seen result
    (expression_breaches scopes for_value (view_expression e)) (resolved_expression scopes (view_expression e))

-- a loop with these breaches is refused; where it has none, its variable's first value and its bound are resolved
pub record ResolvesBounds (result : Result (Box ResolvedExpression × Box ResolvedExpression) SourceFault)
    (breaches : List SourceFault) (scopes : Scopes) (found : Loop) : Type 0 where
  pub checked : Checks result breaches
  pub from : Finds (λ made. view_boxed made.0) result (resolved_expression scopes found.start.from)
  pub to : Finds (λ made. view_boxed made.1) result (resolved_expression scopes found.to)
