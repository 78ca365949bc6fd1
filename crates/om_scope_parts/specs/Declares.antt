-- What a declaration declares, as trees, and what is promised of a function that declares it.
use Rattle.std.specs.Global.{Box}
use Rattle.std.specs.Prelude.{◌≡◌, ◌+◌, ◌≤◌, ◌++◌, List, [], ◌∷◌, OnOk, Option, Result, Some, Vec, map, option_map}
use Rattle.std.specs.declared.alloc.Global.{Global}
use Rattle.om_lexer.specs.declared.fault.SourceFault.{SourceFault}
use Rattle.om_parser_tree.specs.declared.tree.Declaration as declarations
use Rattle.om_parser_tree.specs.declared.tree.Declarator.{Declarator}
use Rattle.om_parser_tree.specs.declared.tree.Expression.{Expression}
use Rattle.om_parser_tree.specs.declared.tree.Initializer.{Initializer}
use Rattle.om_parser_tree.specs.declared.tree.SignedNumber.{SignedNumber}
use Rattle.om_parser_tree.specs.Tree.{DeclaratorTree, ExpressionTree, InitializerTree}
use Rattle.om_parser_tree.specs.View.{view_declarator, view_expression, view_global, view_initializer}
use Rattle.om_parser_tree.specs.View.{view_local, view_number}
use Rattle.om_scope_tree.specs.declared.resolved.GlobalVariable.{GlobalVariable}
use Rattle.om_scope_tree.specs.declared.resolved.ResolvedDeclarator.{ResolvedDeclarator}
use Rattle.om_scope_tree.specs.declared.resolved.ResolvedExpression.{ResolvedExpression}
use Rattle.om_scope_tree.specs.ResolvedView as view
use Rattle.om_scope_rules.specs.declared.limits.TheConstants.{GLOBAL_CELL_LIMIT}
use Rattle.om_scope_rules.specs.Resolves.{Adds, Appends, Resolves}
use Rattle.om_scope_rules.specs.Scopes.{Scopes, after_global, after_globals, after_local, after_locals}
use Rattle.om_scope_rules.specs.Scopes.{cells_of, declarators_of}
use Rattle.om_scope_rules.specs.StatementResolution.{resolved_declarator, resolved_declarators, resolved_initial}
use Rattle.om_scope_rules.specs.StatementRules.{array_size_breaches, initializer_breaches, local_breaches, locals_breaches}
use Rattle.om_scope_rules.specs.StatementRules.{redeclared_breaches}
use Rattle.om_scope_rules.specs.UnitResolution.{global_of}
use Rattle.om_scope_rules.specs.UnitRules.{global_name_breaches}
use Rattle.om_scope_parts.specs.Views.{view_boxed}

-- a declarator, whose initializer stays what it is
abbrev pub bare_tree : {I : Type 0} → Declarator I → DeclaratorTree I
bare_tree = view_declarator (λ value. value)

-- ---- in functions

-- the declarator of a local variable
abbrev pub local_tree : Declarator Expression → DeclaratorTree ExpressionTree
local_tree = view_declarator view_expression

-- the declarators of a declaration
abbrev pub locals_in : declarations.Declaration Expression → List (DeclaratorTree ExpressionTree)
locals_in d = declarators_of (view_local d)

-- the variable is in scope, unless it is refused
abbrev pub DeclaresLocal : {T : Type 0} → Result T SourceFault → Scopes → Scopes → Declarator Expression → Type 0
DeclaresLocal result old new d = OnOk result (new ≡ after_local old (view_declarator view_expression d))

-- the variables are in scope, unless one is refused
abbrev pub DeclaresLocals : {T : Type 0} → Result T SourceFault → Scopes → Scopes
    → List (DeclaratorTree ExpressionTree) → Type 0
DeclaresLocals result old new ds = OnOk result (new ≡ after_locals old ds)

-- the breaches of a local variable's name: S8, S9
abbrev pub local_name_breaches : Scopes → DeclaratorTree ExpressionTree → List SourceFault
local_name_breaches scopes d = redeclared_breaches scopes d.name ++ array_size_breaches d

-- what it holds at the start is refused, or resolved
abbrev pub ResolvesInitial : Result (Option (Box ResolvedExpression)) SourceFault → Scopes
    → Option (Initializer Expression) → Type 0
ResolvesInitial result scopes initializer =
    let tree = option_map (view_initializer view_expression) initializer in
    Resolves (option_map view_boxed) result (initializer_breaches scopes tree) (resolved_initial scopes tree)

-- the variable is refused, or resolved
abbrev pub ResolvesLocal : Result ResolvedDeclarator SourceFault → Scopes → DeclaratorTree ExpressionTree → Type 0
ResolvesLocal result scopes d = Resolves view.declarator result (local_breaches scopes d) (resolved_declarator scopes d)

-- one of the variables is refused, or all are resolved
abbrev pub ResolvesLocals : Result (Vec ResolvedDeclarator Global) SourceFault → Scopes
    → List (DeclaratorTree ExpressionTree) → Type 0
ResolvesLocals result scopes ds = Resolves (λ found. map view.declarator found.items) result (locals_breaches scopes ds)
    (resolved_declarators scopes ds)

-- the variable stands behind those before it, resolved
abbrev pub IsAdded : Scopes → Vec ResolvedDeclarator Global → Vec ResolvedDeclarator Global → Declarator Expression
    → Type 0
IsAdded scopes old new d =
    option_map (λ own. map view.declarator old.items ++ own ∷ []) (resolved_declarator scopes (local_tree d))
    ≡ Some (map view.declarator new.items)

-- the variables of a declaration stand behind those before them, resolved, unless one is refused
abbrev pub AddsLocalsOf : {T : Type 0} → Result T SourceFault → Scopes → Vec ResolvedDeclarator Global
    → Vec ResolvedDeclarator Global → declarations.Declaration Expression → Type 0
AddsLocalsOf result scopes old new d = Adds view.declarator result old new (resolved_declarators scopes (locals_in d))

-- ---- at file scope

-- the declarator of a global
abbrev pub global_tree : Declarator SignedNumber → DeclaratorTree SignedNumber
global_tree = view_declarator view_number

-- what a global holds at the start, as a tree
abbrev pub initial_tree : Option (Initializer SignedNumber) → Option (InitializerTree SignedNumber)
initial_tree = option_map (view_initializer view_number)

-- the breaches of a global's name: S8, S9, S11
abbrev pub name_breaches_of : Scopes → Declarator SignedNumber → List SourceFault
name_breaches_of scopes d = global_name_breaches scopes (global_tree d)

-- the cells of this global and those of the globals before it are not more than the limit
abbrev pub HasCellsFor : Scopes → Declarator SignedNumber → Type 0
HasCellsFor scopes d = scopes.cells + cells_of d.array ≤ GLOBAL_CELL_LIMIT

-- the declarators of a declaration
abbrev pub globals_in : declarations.Declaration SignedNumber → List (DeclaratorTree SignedNumber)
globals_in d = declarators_of (view_global d)

-- the global is in scope, unless it is refused
abbrev pub DeclaresGlobal : {T : Type 0} → Result T SourceFault → Scopes → Scopes → Declarator SignedNumber → Type 0
DeclaresGlobal result old new d = OnOk result (new ≡ after_global old (global_tree d))

-- the globals are in scope, unless one is refused
abbrev pub DeclaresGlobals : {T : Type 0} → Result T SourceFault → Scopes → Scopes
    → List (DeclaratorTree SignedNumber) → Type 0
DeclaresGlobals result old new ds = OnOk result (new ≡ after_globals old ds)

-- the global stands behind those before it, unless it is refused
abbrev pub AppendsGlobal : {T : Type 0} → Result T SourceFault → Vec GlobalVariable Global → Vec GlobalVariable Global
    → Declarator SignedNumber → Type 0
AppendsGlobal result old new d = Appends result old new (global_of (global_tree d) ∷ [])

-- the globals stand behind those before them, unless one is refused
abbrev pub AppendsGlobals : {T : Type 0} → Result T SourceFault → Vec GlobalVariable Global → Vec GlobalVariable Global
    → List (DeclaratorTree SignedNumber) → Type 0
AppendsGlobals result old new ds = Appends result old new (map global_of ds)
