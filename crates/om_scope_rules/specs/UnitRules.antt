-- The rules at file scope, by the breaches that a source has of them, in the order of the text.
use Rattle.std.specs.Prelude.{ℕ, ◌+◌, List, [], ◌++◌, Option, None, Some, Bool, true, false, codes, nat_lt, nat_le, not}
use Rattle.std.specs.Prelude.{◌&&◌, length}
use Rattle.std.specs.List.{list_any}
use Rattle.std.specs.Str.{bytes_eq}
use Rattle.om_lexer.specs.declared.fault.FaultCode.TheVariants as faults
use Rattle.om_lexer.specs.declared.fault.SourceFault.{SourceFault}
use Rattle.om_pragma.specs.declared.clause.Name as names
use Rattle.om_lexer.specs.declared.token.Span.{Span}
use Rattle.om_parser_tree.specs.declared.tree.Parameter.{Parameter}
use Rattle.om_parser_tree.specs.declared.tree.SignedNumber.{SignedNumber}
use Rattle.om_parser_tree.specs.Tree.{InitializerTree, DeclaratorTree, statements, HeadTree, FunctionTree, ItemTree}
use Rattle.om_parser_tree.specs.Tree.{Declaration, Prototype, Function}
use Rattle.om_scope_rules.specs.declared.region.Flow.{Flow}
use Rattle.om_scope_rules.specs.declared.limits.TheConstants.{GLOBAL_CELL_LIMIT}
use Rattle.om_scope_rules.specs.declared.limits.TheConstants.{FUNCTION_LIMIT, PARAMETER_LIMIT}
use Rattle.om_scope_rules.specs.declared.names.Meaning.{Meaning}
use Rattle.om_scope_rules.specs.declared.names.Meaning.TheVariants as meanings
use Rattle.om_scope_rules.specs.declared.names.Signature.{Signature}
use Rattle.om_scope_rules.specs.Faults.{breach_if}
use Rattle.om_scope_rules.specs.ExpressionRules.{constant_breaches}
use Rattle.om_scope_rules.specs.Places.{head_start}
use Rattle.om_scope_rules.specs.Scopes.{Scopes, predeclared, asks, meaning_here, inside, signature_of, signature_eq}
use Rattle.om_scope_rules.specs.Scopes.{parameters_of, declarators_of, cells_of, after_global, after_parameter}
use Rattle.om_scope_rules.specs.Scopes.{after_parameters, after_optional, after_prototype, after_function, after_item}
use Rattle.om_scope_rules.specs.Faults.{breaches_along}
use Rattle.om_scope_rules.specs.StatementRules.{redeclared_breaches, array_size_breaches, statements_breaches}

-- ---- globals

-- a global begins as a number
abbrev pub initial_breaches : Option (InitializerTree SignedNumber) → List SourceFault
initial_breaches None = []
initial_breaches (Some initializer) = constant_breaches initializer.value.number

-- S8; S9: a global named `main`, an array of no cells; S11: more cells of globals than a source may have
abbrev pub global_name_breaches : Scopes → DeclaratorTree SignedNumber → List SourceFault
global_name_breaches scopes d =
    redeclared_breaches scopes d.name
    ++ breach_if (bytes_eq d.name.text (codes "main")) faults.Misuse d.name.span.start
    ++ array_size_breaches d
    ++ breach_if (nat_lt GLOBAL_CELL_LIMIT (scopes.cells + cells_of d.array)) faults.TooMany d.name.span.start

abbrev pub global_breaches : Scopes → DeclaratorTree SignedNumber → List SourceFault
global_breaches scopes d = global_name_breaches scopes d ++ initial_breaches d.initializer

abbrev pub globals_breaches : Scopes → List (DeclaratorTree SignedNumber) → List SourceFault
globals_breaches = breaches_along global_breaches after_global

-- ---- functions

-- S8: declared before as something else (C17 6.7p4)
abbrev pub is_redeclared : Signature → Option Meaning → Bool
is_redeclared signature None = false
is_redeclared signature (Some (meanings.Function earlier)) = not (signature_eq earlier signature)
is_redeclared signature (Some (meanings.Variable variable shape)) = true
is_redeclared signature (Some meanings.Printf) = true

-- S9: `main` is `int main(void)` (C17 5.1.2.2.1)
abbrev pub is_other_main : List ℕ → Signature → Bool
is_other_main name signature = bytes_eq name (codes "main") && not (signature_eq signature asks)

abbrev pub head_breaches : {N : Type 0} → Scopes → HeadTree N → List SourceFault
head_breaches scopes head =
    breach_if (is_redeclared (signature_of head) (meaning_here scopes head.name.text)) faults.Redeclared
    head.name.span.start
    ++ breach_if (is_other_main head.name.text (signature_of head)) faults.Misuse head.name.span.start

-- S11 at the first parameter too many
abbrev pub further_breaches : (before : ℕ) → Span → List SourceFault
further_breaches before int = breach_if (nat_le PARAMETER_LIMIT before) faults.TooMany int.start

-- how many parameters stand before, and the scopes behind them
abbrev pub ParameterState : Type 0
ParameterState = ℕ × Scopes

-- a parameter of a definition
abbrev pub parameter_breaches : ParameterState → Parameter names.Name → List SourceFault
parameter_breaches (before, scopes) parameter =
    further_breaches before parameter.int ++ redeclared_breaches scopes parameter.name

abbrev pub next_parameter : ParameterState → Parameter names.Name → ParameterState
next_parameter (before, scopes) parameter = (before + 1, after_parameter scopes parameter)

abbrev pub parameters_breaches : Scopes → List (Parameter names.Name) → List SourceFault
parameters_breaches scopes parameters = breaches_along parameter_breaches next_parameter (0, scopes) parameters

-- one of a prototype, which may lack a name
abbrev pub optional_name_breaches : Scopes → Option names.Name → List SourceFault
optional_name_breaches scopes None = []
optional_name_breaches scopes (Some name) = redeclared_breaches scopes name

abbrev pub optional_breaches : ParameterState → Parameter (Option names.Name) → List SourceFault
optional_breaches (before, scopes) parameter =
    further_breaches before parameter.int ++ optional_name_breaches scopes parameter.name

abbrev pub next_optional : ParameterState → Parameter (Option names.Name) → ParameterState
next_optional (before, scopes) parameter = (before + 1, after_optional scopes parameter)

abbrev pub optionals_breaches : Scopes → List (Parameter (Option names.Name)) → List SourceFault
optionals_breaches scopes parameters = breaches_along optional_breaches next_optional (0, scopes) parameters

abbrev pub prototype_breaches : Scopes → HeadTree (Option names.Name) → List SourceFault
prototype_breaches scopes head = head_breaches scopes head ++ optionals_breaches
    (inside (after_prototype scopes head)) (parameters_of head.parameters)

-- what a function's statements may do
abbrev pub flow_of : HeadTree names.Name → Flow
flow_of head = record {
  may_break = false;
  may_continue = false;
  returns = (signature_of head).returns;
  in_construct = false;
  is_closed = false;
  parallel = None;
}

-- S11 at the first definition too many, S8 at a second one of a function
abbrev pub definition_breaches : Scopes → HeadTree names.Name → List SourceFault
definition_breaches scopes head =
    breach_if (nat_le (FUNCTION_LIMIT + length predeclared) (length scopes.defined)) faults.TooMany (head_start head)
    ++ breach_if (list_any (bytes_eq head.name.text) scopes.defined) faults.Redeclared head.name.span.start
    ++ head_breaches scopes head

-- parameters and body are one scope (C17 6.2.1p4)
abbrev pub body_breaches : Scopes → FunctionTree → List SourceFault
body_breaches scopes f =
    parameters_breaches (inside scopes) (parameters_of f.head.parameters)
    ++ statements_breaches (after_parameters (inside scopes) (parameters_of f.head.parameters)) (flow_of f.head)
    (statements f.body.items)

abbrev pub function_breaches : Scopes → FunctionTree → List SourceFault
function_breaches scopes f = definition_breaches scopes f.head ++ body_breaches (after_function scopes f.head) f

abbrev pub item_breaches : Scopes → ItemTree → List SourceFault
item_breaches scopes (Declaration d) = globals_breaches scopes (declarators_of d)
item_breaches scopes (Prototype head semicolon) = prototype_breaches scopes head
item_breaches scopes (Function f) = function_breaches scopes f

abbrev pub items_breaches : Scopes → List ItemTree → List SourceFault
items_breaches = breaches_along item_breaches after_item
