-- The resolution of functions and of a whole source.
use Rattle.std.specs.Prelude.{ℤ, pos, List, [], ◌∷◌, Option, None, Some, map}
use Rattle.std.specs.List.{flat_map}
use Rattle.om_parser_tree.specs.declared.tree.Parameter.{Parameter}
use Rattle.om_parser_tree.specs.declared.tree.SignedNumber.{SignedNumber}
use Rattle.om_parser_tree.specs.Tree.{InitializerTree, DeclaratorTree, statements, FunctionTree, ItemTree, Declaration}
use Rattle.om_parser_tree.specs.Tree.{Prototype, Function, UnitTree}
use Rattle.om_pragma.specs.declared.clause.Name as names
use Rattle.om_scope_tree.specs.declared.resolved.GlobalVariable.{GlobalVariable}
use Rattle.om_scope_tree.specs.declared.resolved.LocalVariable.{LocalVariable}
use Rattle.om_scope_rules.specs.Constants.{signed_value}
use Rattle.om_scope_rules.specs.Perhaps.{◌>>=◌, all_along}
use Rattle.om_scope_rules.specs.Places.{head_first}
use Rattle.om_scope_tree.specs.ResolvedTree.{ResolvedFunctionTree, ResolvedStatementsTree, ResolvedTree}
use Rattle.om_scope_rules.specs.Scopes.{Scopes, file_scope, inside, declarators_of, definitions_of, parameters_of}
use Rattle.om_scope_rules.specs.Scopes.{returns_value, after_function, after_item, after_parameters}
use Rattle.om_scope_rules.specs.StatementResolution.{length_of, local_of, resolved_statements}

-- ---- functions

-- the variable that a parameter is
abbrev pub parameter_variable : Parameter names.Name → LocalVariable
parameter_variable parameter = local_of parameter.name

-- parameters and body are one scope (C17 6.2.1p4)
abbrev pub resolved_inside : Scopes → FunctionTree → Option ResolvedStatementsTree
resolved_inside scopes f = resolved_statements (after_parameters (inside scopes) (parameters_of f.head.parameters))
    None (statements f.body.items)

unfoldable pub resolved_function : Scopes → FunctionTree → Option ResolvedFunctionTree
resolved_function scopes f =
    resolved_inside (after_function scopes f.head) f >>= λ body.
    Some (record {
      name = f.head.name.text;
      name_at = f.head.name.span.start;
      first = head_first f.head;
      returns = returns_value f.head.result;
      parameters = map parameter_variable (parameters_of f.head.parameters);
      body = body;
      closing_line = f.body.close_brace.line;
    })

-- ---- items

-- 0 where it is not said (C17 6.7.9p10)
abbrev pub initial_of : Option (InitializerTree SignedNumber) → ℤ
initial_of None = pos 0
initial_of (Some initializer) = signed_value initializer.value

abbrev pub global_of : DeclaratorTree SignedNumber → GlobalVariable
global_of d = record {
  name = d.name.text;
  at = d.name.span.start;
  length = length_of d.array;
  initial = initial_of d.initializer;
}

-- the globals that an item declares
abbrev pub globals_of : ItemTree → List GlobalVariable
globals_of (Declaration d) = map global_of (declarators_of d)
globals_of (Prototype head semicolon) = []
globals_of (Function f) = []

-- the functions that an item defines
unfoldable pub item_functions : Scopes → ItemTree → Option (List ResolvedFunctionTree)
item_functions scopes (Declaration d) = Some []
item_functions scopes (Prototype head semicolon) = Some []
item_functions scopes (Function f) = resolved_function scopes f >>= λ function. Some (function ∷ [])

-- the resolution of items, each in the scopes behind those before it
abbrev pub items_resolution : List ItemTree → Option ResolvedTree
items_resolution items = all_along item_functions after_item (file_scope (definitions_of items)) items >>=
    λ functions. Some (record {
      globals = flat_map globals_of items;
      functions = functions;
    })

-- the resolution of a whole source
unfoldable pub resolution_of : UnitTree → Option ResolvedTree
resolution_of unit = items_resolution unit.items
