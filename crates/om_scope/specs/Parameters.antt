-- What is promised of the functions that declare parameters, and of those that resolve a function.
use Rattle.std.specs.Prelude.{◌≡◌, [], ◌∷◌, List, OnOk, Option, Result, Vec, map}
use Rattle.std.specs.declared.alloc.Global.{Global}
use Rattle.om_lexer.specs.declared.fault.SourceFault.{SourceFault}
use Rattle.om_pragma.specs.declared.clause.Name as names
use Rattle.om_parser_tree.specs.declared.tree.Parameter.{Parameter}
use Rattle.om_parser_tree.specs.declared.tree.Parameters.{Parameters}
use Rattle.om_parser_tree.specs.Tree.{FunctionTree}
use Rattle.om_scope_tree.specs.declared.resolved.LocalVariable.{LocalVariable}
use Rattle.om_scope_tree.specs.declared.resolved.ResolvedFunction.{ResolvedFunction}
use Rattle.om_scope_tree.specs.declared.resolved.ResolvedStatement.{ResolvedStatement}
use Rattle.om_scope_tree.specs.ResolvedView as view
use Rattle.om_scope_rules.specs.Checks.{Checks}
use Rattle.om_scope_rules.specs.Resolves.{Appends, Resolves}
use Rattle.om_scope_rules.specs.Scopes.{Scopes, after_optionals, after_parameters}
use Rattle.om_scope_rules.specs.UnitResolution.{parameter_variable, resolved_function, resolved_inside}
use Rattle.om_scope_rules.specs.UnitRules.{body_breaches, function_breaches, optionals_breaches, parameters_breaches}
use Rattle.om_scope.specs.Resolving.{parameters_in, view_items}

-- ---- the parameters of a definition

-- the first breach of one of them is refused
abbrev pub ChecksParameters : {T : Type 0} → Result T SourceFault → Scopes → Parameters names.Name → Type 0
ChecksParameters result scopes ps = Checks result (parameters_breaches scopes (parameters_in ps))

-- they are in scope, unless one is refused
abbrev pub DeclaresParameters : {T : Type 0} → Result T SourceFault → Scopes → Scopes → Parameters names.Name → Type 0
DeclaresParameters result old new ps = OnOk result (new ≡ after_parameters old (parameters_in ps))

-- their variables stand behind those that were there, unless one is refused
abbrev pub AppendsParameters : {T : Type 0} → Result T SourceFault → Vec LocalVariable Global → Vec LocalVariable Global
    → Parameters names.Name → Type 0
AppendsParameters result old new ps = Appends result old new (map parameter_variable (parameters_in ps))

-- the variable of one parameter stands behind those that were there, unless the parameter is refused
abbrev pub AppendsParameter : {T : Type 0} → Result T SourceFault → Vec LocalVariable Global → Vec LocalVariable Global
    → Parameter names.Name → Type 0
AppendsParameter result old new p = Appends result old new (map parameter_variable (p ∷ []))

-- ---- the parameters of a prototype, which need no names

-- the first breach of one of them is refused
abbrev pub ChecksOptionals : {T : Type 0} → Result T SourceFault → Scopes → Parameters (Option names.Name) → Type 0
ChecksOptionals result scopes ps = Checks result (optionals_breaches scopes (parameters_in ps))

-- those that have names are in scope, unless one is refused
abbrev pub DeclaresOptionals : {T : Type 0} → Result T SourceFault → Scopes → Scopes → Parameters (Option names.Name)
    → Type 0
DeclaresOptionals result old new ps = OnOk result (new ≡ after_optionals old (parameters_in ps))

-- ---- functions

-- the parameters and the statements of a function are refused, or the statements are resolved
abbrev pub ResolvesInside : Result (Vec ResolvedStatement Global) SourceFault → Scopes → FunctionTree → Type 0
ResolvesInside result scopes f = Resolves view_items result (body_breaches scopes f) (resolved_inside scopes f)

-- a function is refused, or resolved
abbrev pub ResolvesFunction : Result ResolvedFunction SourceFault → Scopes → FunctionTree → Type 0
ResolvesFunction result scopes f =
    Resolves view.function result (function_breaches scopes f) (resolved_function scopes f)
