-- What is promised of a `for` put together of its parts, of these parts, of statements that have no statement in
-- them, and of the `section` that a part of `sections` begins with.
use Rattle.std.specs.Global.{Box}
use Rattle.std.specs.Prelude.{◌≡◌, ◌++◌, false, Bool, Option, Result, not, option_map}
use Rattle.om_lexer.specs.declared.fault.SourceFault.{SourceFault}
use Rattle.om_lexer.specs.declared.token.Span.{Span}
use Rattle.om_pragma.specs.declared.tree.Directive.{Directive}
use Rattle.om_parser_tree.specs.declared.tree.Expression.{Expression}
use Rattle.om_parser_tree.specs.Tree.{DeclarationTree, ExpressionTree, ForStartTree}
use Rattle.om_parser_tree.specs.View.{view_directive, view_expression}
use Rattle.om_scope_tree.specs.declared.resolved.ResolvedExpression.{ResolvedExpression}
use Rattle.om_scope_tree.specs.declared.resolved.ResolvedHead.{ResolvedHead}
use Rattle.om_scope_tree.specs.declared.resolved.ResolvedStart.{ResolvedStart}
use Rattle.om_scope_tree.specs.declared.resolved.ResolvedStatement.{ResolvedStatement}
use Rattle.om_scope_tree.specs.ResolvedTree as resolved
use Rattle.om_scope_tree.specs.ResolvedTree.{ResolvedExpressionTree}
use Rattle.om_scope_tree.specs.ResolvedView as view
use Rattle.om_scope_rules.specs.declared.region.Flow.{Flow}
use Rattle.om_scope_rules.specs.DirectiveRules.{flush_breaches}
use Rattle.om_scope_rules.specs.ExpressionRules.{expression_breaches}
use Rattle.om_scope_rules.specs.Resolves.{Resolves}
use Rattle.om_scope_rules.specs.Scopes.{Scopes, declarators_of}
use Rattle.om_scope_rules.specs.StatementResolution.{resolved_alone, resolved_perhaps, resolved_start}
use Rattle.om_scope_rules.specs.StatementRules.{for_start_breaches, jump_breaches, locals_breaches, perhaps_breaches}
use Rattle.om_scope_rules.specs.StatementRules.{return_breaches, stand_alone_breaches}
use Rattle.om_scope.specs.Parts.{resolved_declaration, resolved_effect, resolved_return}
use Rattle.om_scope.specs.Resolving.{view_body}
use Rattle.om_scope_parts.specs.Views.{view_boxed}

-- ---- the parts of a `for`

-- the condition that a resolved head has
abbrev pub head_condition : Box ResolvedHead → Option ResolvedExpressionTree
head_condition head = option_map view.expression head.value.condition

-- the step that it has
abbrev pub head_step : Box ResolvedHead → Option ResolvedExpressionTree
head_step head = option_map view.expression head.value.step

-- a statement is a `for` with this head and this body
abbrev pub IsFor : Span → Box ResolvedHead → Box ResolvedStatement → ResolvedStatement → Type 0
IsFor at head body found =
    view.statement found
    ≡ resolved.For at (view.start head.value.start) (head_condition head) (head_step head) (view_body body)

-- what a `for` begins with is refused, or resolved
abbrev pub ResolvesStart : Result ResolvedStart SourceFault → Scopes → ForStartTree → Type 0
ResolvesStart result scopes start =
    Resolves view.start result (for_start_breaches scopes start) (resolved_start scopes start)

-- an expression that may be left out is refused, or resolved
abbrev pub ResolvesPerhaps : Result (Option (Box ResolvedExpression)) SourceFault → Scopes → Bool → Option Expression
    → Type 0
ResolvesPerhaps result scopes for_value e =
    let tree = option_map view_expression e in
    Resolves (option_map view_boxed) result (perhaps_breaches scopes for_value tree) (resolved_perhaps scopes tree)

-- ---- each of these is refused, or resolved

-- a declaration in a block
abbrev pub ResolvesDeclaration : Result ResolvedStatement SourceFault → Scopes → DeclarationTree ExpressionTree → Type 0
ResolvesDeclaration result scopes d =
    Resolves view.statement result (locals_breaches scopes (declarators_of d)) (resolved_declaration scopes d)

-- an expression whose value is not used
abbrev pub ResolvesEffect : Result ResolvedStatement SourceFault → Scopes → Expression → Type 0
ResolvesEffect result scopes e =
    let tree = view_expression e in
    Resolves view.statement result (expression_breaches scopes false tree) (resolved_effect scopes tree)

-- a `return`
abbrev pub ResolvesReturn : Result ResolvedStatement SourceFault → Scopes → Flow → Span → Option ExpressionTree → Type 0
ResolvesReturn result scopes flow at value = Resolves view.statement result
    (jump_breaches (not flow.in_construct) at.start ++ return_breaches scopes flow value)
    (resolved_return scopes at value)

-- what a function returns
abbrev pub ResolvesReturned : Result (Option (Box ResolvedExpression)) SourceFault → Scopes → Flow
    → Option ExpressionTree → Type 0
ResolvesReturned result scopes flow value =
    Resolves (option_map view_boxed) result (return_breaches scopes flow value) (resolved_perhaps scopes value)

-- a directive that stands alone
abbrev pub ResolvesStandAlone : Result ResolvedStatement SourceFault → Scopes → Flow → Directive Expression → Type 0
ResolvesStandAlone result scopes flow d =
    let tree = view_directive d in
    Resolves view.statement result (stand_alone_breaches scopes flow tree) (resolved_alone scopes tree tree.name)

-- a directive that stands alone, of which only the list of a `flush` is still to be checked
abbrev pub ResolvesAlone : Result ResolvedStatement SourceFault → Scopes → Directive Expression → Type 0
ResolvesAlone result scopes d =
    let tree = view_directive d in
    Resolves view.statement result (flush_breaches scopes d.name) (resolved_alone scopes tree tree.name)

-- ---- a part of `sections`

-- the `section` that it begins with, which may be left out
abbrev pub section_tree : Option (Box (Directive Expression)) → Option (Directive ExpressionTree)
section_tree section = option_map (λ d. view_directive d.value) section
