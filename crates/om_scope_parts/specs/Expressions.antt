-- What is promised of the functions for parts of expressions: a part is refused, or resolved, in these scopes.
use Rattle.std.specs.Prelude.{ℕ, true, Bool, List, Option, Result, Vec}
use Rattle.std.specs.Global.{Box}
use Rattle.std.specs.declared.alloc.Global.{Global}
use Rattle.om_lexer.specs.declared.fault.SourceFault.{SourceFault}
use Rattle.om_lexer.specs.declared.token.Span.{Span}
use Rattle.om_pragma.specs.declared.clause.Name as names
use Rattle.om_parser_tree.specs.declared.tree.AssignOperator.{AssignOperator}
use Rattle.om_parser_tree.specs.declared.tree.Expression.{Expression}
use Rattle.om_parser_tree.specs.declared.tree.PrefixOperator.{PrefixOperator}
use Rattle.om_parser_tree.specs.View.{view_arguments, view_expression}
use Rattle.om_scope_tree.specs.declared.resolved.ResolvedExpression.{ResolvedExpression}
use Rattle.om_scope_tree.specs.declared.resolved.UnaryOperator.{UnaryOperator}
use Rattle.om_scope_tree.specs.declared.resolved.Variable.{Variable}
use Rattle.om_scope_tree.specs.ResolvedView as view
use Rattle.om_scope_rules.specs.Checks.{Checks}
use Rattle.om_scope_rules.specs.ExpressionRules.{argument_breaches, arguments_breaches, called_breaches, element_breaches}
use Rattle.om_scope_rules.specs.ExpressionRules.{expression_breaches, misprint_breaches, own_call_breaches, prefix_breaches}
use Rattle.om_scope_rules.specs.ExpressionRules.{print_breaches, printed_breaches, target_breaches}
use Rattle.om_scope_rules.specs.Resolution.{callee_named, format_in, own_call_of, prefixed, print_of, resolved_call}
use Rattle.om_scope_rules.specs.Resolution.{resolved_expression, resolved_printed, resolved_target, resolved_values}
use Rattle.om_scope_rules.specs.Resolves.{Resolves}
use Rattle.om_scope_rules.specs.Scopes.{Scopes}
use Rattle.om_scope_parts.specs.declared.target.Target.{Target}
use Rattle.om_scope_parts.specs.Parts.{step_of, unary_of}
use Rattle.om_scope_parts.specs.TargetViews.{view_target}
use Rattle.om_scope_parts.specs.Views.{view_boxed, view_values}

-- ---- operators and targets

-- an operator before its operand
abbrev pub ResolvesPrefix : Result ResolvedExpression SourceFault → Scopes → PrefixOperator → Expression → Type 0
ResolvesPrefix result scopes operator operand =
    let tree = view_expression operand in
    Resolves view.expression result (prefix_breaches scopes operator tree)
    (prefixed operator (resolved_target scopes tree) (resolved_expression scopes tree))

-- `++` or `--` before a target
abbrev pub ResolvesStep : Result ResolvedExpression SourceFault → Scopes → AssignOperator → Expression → Type 0
ResolvesStep result scopes operator operand =
    let tree = view_expression operand in
    Resolves view.expression result (target_breaches scopes tree) (step_of operator (resolved_target scopes tree))

-- an operator before an operand whose value it uses
abbrev pub ResolvesUnary : Result ResolvedExpression SourceFault → Scopes → UnaryOperator → Expression → Type 0
ResolvesUnary result scopes operator operand =
    let tree = view_expression operand in
    Resolves view.expression result (expression_breaches scopes true tree)
    (unary_of operator (resolved_expression scopes tree))

-- what is assigned to
abbrev pub ResolvesTarget : Result Target SourceFault → Scopes → Expression → Type 0
ResolvesTarget result scopes target =
    let tree = view_expression target in
    Resolves view_target result (target_breaches scopes tree) (resolved_target scopes tree)

-- an element of this array: what is found is its index, beside the array
abbrev pub ResolvesElement : Result (Variable × Box ResolvedExpression) SourceFault → Scopes → names.Name → Expression
    → Type 0
ResolvesElement result scopes name index =
    let tree = view_expression index in
    Resolves (λ found. view_boxed found.1) result (element_breaches scopes name tree) (resolved_expression scopes tree)

-- ---- calls

-- a call of this name with these values
abbrev pub ResolvesCall : Result ResolvedExpression SourceFault → Scopes → Bool → names.Name
    → List (Option Span × Expression) → Type 0
ResolvesCall result scopes for_value name values =
    let given = view_arguments values in
    Resolves view.expression result (called_breaches scopes for_value name given) (resolved_call scopes name given)

-- a call of `printf`
abbrev pub ResolvesPrint : Result ResolvedExpression SourceFault → Scopes → Bool → names.Name
    → List (Option Span × Expression) → Type 0
ResolvesPrint result scopes for_value name values =
    let given = view_arguments values in
    Resolves view.expression result (print_breaches scopes for_value name given)
    (print_of (format_in given) (resolved_printed scopes given))

-- the first breach of the rules of its format is refused
abbrev pub ChecksFormat : {T : Type 0} → Result T SourceFault → Bool → names.Name → List (Option Span × Expression)
    → Type 0
ChecksFormat result for_value name values = Checks result (misprint_breaches for_value name (view_arguments values))

-- the values behind its format
abbrev pub ResolvesPrinted : Result (Vec ResolvedExpression Global) SourceFault → Scopes
    → List (Option Span × Expression) → Type 0
ResolvesPrinted result scopes values =
    let given = view_arguments values in
    Resolves view_values result (printed_breaches scopes 0 given) (resolved_printed scopes given)

-- one of them, at this place behind the format
abbrev pub ResolvesArgument : Result ResolvedExpression SourceFault → Scopes → (place : ℕ) → Expression → Type 0
ResolvesArgument result scopes place argument =
    let tree = view_expression argument in
    Resolves view.expression result (argument_breaches scopes place tree) (resolved_expression scopes tree)

-- a call of another function than `printf`
abbrev pub ResolvesOwnCall : Result ResolvedExpression SourceFault → Scopes → Bool → names.Name
    → List (Option Span × Expression) → Type 0
ResolvesOwnCall result scopes for_value name values =
    let given = view_arguments values in
    Resolves view.expression result (own_call_breaches scopes for_value name given)
    (own_call_of (callee_named scopes name) (resolved_values scopes given))

-- its values
abbrev pub ResolvesValues : Result (Vec ResolvedExpression Global) SourceFault → Scopes
    → List (Option Span × Expression) → Type 0
ResolvesValues result scopes values =
    let given = view_arguments values in
    Resolves view_values result (arguments_breaches scopes given) (resolved_values scopes given)
