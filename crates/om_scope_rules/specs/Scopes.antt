-- Names, what they are declared as, and where that is seen (C17 6.2.1).
use Rattle.std.specs.Prelude.{ℕ, ◌+◌, List, [], ◌∷◌, ◌++◌, Option, None, Some, Bool, codes, fold, length, map, is_some}
use Rattle.std.specs.Prelude.{Vec, true, false, if◌then◌else◌, nat_eq, ◌&&◌, not}
use Rattle.std.specs.Map.{lookup}
use Rattle.std.specs.Option.{option_or}
use Rattle.std.specs.Str.{bytes_eq}
use Rattle.std.specs.declared.alloc.Global.{Global}
use Rattle.om_lexer.specs.declared.token.Span.{Span}
use Rattle.om_parser_tree.specs.declared.tree.ArrayLength.{ArrayLength}
use Rattle.om_pragma.specs.declared.clause.Name as names
use Rattle.om_parser_tree.specs.declared.tree.Parameter.{Parameter}
use Rattle.om_parser_tree.specs.declared.tree.ResultType.{ResultType}
use Rattle.om_parser_tree.specs.declared.tree.ResultType.TheVariants as results
use Rattle.om_parser_tree.specs.declared.tree.SignedNumber.{SignedNumber}
use Rattle.om_parser_tree.specs.Tree.{DeclaratorTree, DeclarationTree, ParametersTree, NoParameters, Void, Listed, HeadTree}
use Rattle.om_parser_tree.specs.Tree.{ExpressionTree, ItemTree, Declaration, Prototype, Function}
use Rattle.om_scope_tree.specs.declared.resolved.Variable.TheVariants as variables
use Rattle.om_scope_rules.specs.declared.names.Meaning.{Meaning}
use Rattle.om_scope_rules.specs.declared.names.Meaning.TheVariants as meanings
use Rattle.om_scope_rules.specs.declared.region.Region.{Region}
use Rattle.om_scope_rules.specs.declared.region.SharingKind.TheVariants as regions
use Rattle.om_scope_tree.specs.declared.resolved.Shape.{Shape}
use Rattle.om_scope_tree.specs.declared.resolved.Shape.TheVariants as shapes
use Rattle.om_scope_rules.specs.declared.names.Signature.{Signature}
pub use Rattle.om_scope_rules.specs.NameLists.{same_name, with_name}

-- a name, and what it is declared as
abbrev pub Binding : Type 0
Binding = List ℕ × Meaning

-- the declarations of one scope, up to some place, in their order
abbrev pub Scope : Type 0
Scope = List Binding

-- the declarations that a table of names holds
abbrev pub scope_of : List (Vec ℕ Global × Meaning) → Scope
scope_of entries = map (λ entry. (entry.0.items, entry.1)) entries

-- a scope round another one
pub record Enclosing : Type 0 where
  pub scope : Scope
  -- the construct that the scope inside of it belongs to
  pub region : Region

-- what is in scope at a place
pub record Scopes : Type 0 where
  -- the declarations of the innermost scope, up to the place
  pub inner : Scope
  -- the scopes round it, the innermost first (C17 6.2.1p4)
  pub outer : List Enclosing
  -- how many globals are declared before the place
  pub globals : ℕ
  -- how many cells they have
  pub cells : ℕ
  -- the functions that the whole source defines
  pub definitions : List (List ℕ)
  -- those that it defines before the place
  pub defined : List (List ℕ)

-- what a name means in scopes: its declaration in the innermost that has one
abbrev pub meaning_outside : List Enclosing → List ℕ → Option Meaning
meaning_outside [] name = None
meaning_outside (e ∷ outer) name = option_or (lookup (bytes_eq name) e.scope) (meaning_outside outer name)

-- what a name means at a place
abbrev pub meaning_of : Scopes → List ℕ → Option Meaning
meaning_of scopes name = option_or (lookup (bytes_eq name) scopes.inner) (meaning_outside scopes.outer name)

-- what the innermost scope itself declares a name as
abbrev pub meaning_here : Scopes → List ℕ → Option Meaning
meaning_here scopes name = lookup (bytes_eq name) scopes.inner

-- whether the innermost scope itself declares a name
abbrev pub is_declared : Scopes → List ℕ → Bool
is_declared scopes name = is_some (meaning_here scopes name)

-- the scopes once the innermost has further declarations
abbrev pub with_bindings : Scopes → List Binding → Scopes
with_bindings scopes bindings = record scopes { inner = scopes.inner ++ bindings }

-- the scopes once a name is declared as a variable of a function, which is known by where it is declared
abbrev pub with_local : Scopes → names.Name → Shape → Scopes
with_local scopes name shape = with_bindings scopes
    ((name.text, meanings.Variable (variables.Local name.span.start) shape) ∷ [])

abbrev pub with_function : Scopes → List ℕ → Signature → Scopes
with_function scopes name signature = with_bindings scopes ((name, meanings.Function signature) ∷ [])

-- the scopes once a name is declared as the next global, of so many cells
abbrev pub with_global : Scopes → List ℕ → Shape → ℕ → Scopes
with_global scopes name shape cells = record scopes {
  inner = scopes.inner ++ (name, meanings.Variable (variables.Global scopes.globals) shape) ∷ [];
  globals = scopes.globals + 1;
  cells = scopes.cells + cells;
}

-- the scopes once a function is defined
abbrev pub with_defined : Scopes → List ℕ → Scopes
with_defined scopes name = record scopes { defined = with_name scopes.defined name }

-- the scopes in a construct that has these declarations so far; the copies that its clauses make are among these
-- (OpenMP API 5.2, section 5.3)
abbrev pub within : Scope → Region → Scopes → Scopes
within inner region scopes =
    record scopes { inner = inner; outer = record { scope = scopes.inner; region = region } ∷ scopes.outer }

-- no construct that says how variables are shared
abbrev pub plain : Region
plain = record { kind = regions.Plain; default = None; shared = [] }

-- the scopes in a block, in which nothing is declared yet
abbrev pub inside : Scopes → Scopes
inside scopes = within [] plain scopes

abbrev pub first_scope : Scope → List Enclosing → Scope
first_scope inner [] = inner
first_scope inner (e ∷ outer) = e.scope

abbrev pub further_scopes : List Enclosing → List Enclosing
further_scopes [] = []
further_scopes (e ∷ outer) = outer

-- the scopes behind a block
abbrev pub outside : Scopes → Scopes
outside scopes =
    record scopes { inner = first_scope scopes.inner scopes.outer; outer = further_scopes scopes.outer }

-- a function without parameters that returns an `int`
abbrev pub asks : Signature
asks = record { returns = true; parameters = 0 }

-- the functions that are declared before any source (C17 7.21.6.3, OpenMP 5.2 section 18.2)
abbrev pub predeclared : List (List ℕ)
predeclared = codes "printf" ∷ codes "omp_get_thread_num" ∷ codes "omp_get_num_threads" ∷ []

-- no name is declared yet, in a source that defines these functions
abbrev pub nothing_declared : List (List ℕ) → Scopes
nothing_declared definitions = record {
  inner = [];
  outer = [];
  globals = 0;
  cells = 0;
  definitions = definitions;
  defined = [];
}

-- what is in scope where a source begins that defines these functions besides
abbrev pub file_scope : List (List ℕ) → Scopes
file_scope definitions = record {
  inner = (codes "printf", meanings.Printf) ∷ (codes "omp_get_thread_num", meanings.Function asks)
      ∷ (codes "omp_get_num_threads", meanings.Function asks) ∷ [];
  outer = [];
  globals = 0;
  cells = 0;
  definitions = definitions;
  defined = predeclared;
}

-- ---- what a declaration declares

-- the declarators behind commas
abbrev pub behind_commas : {I : Type 0} → List (Span × DeclaratorTree I) → List (DeclaratorTree I)
behind_commas rest = map (λ further. further.1) rest

-- the declarators of a declaration, in their order
abbrev pub declarators_of : {I : Type 0} → DeclarationTree I → List (DeclaratorTree I)
declarators_of d = d.first ∷ behind_commas d.rest

abbrev pub shape_of : Option ArrayLength → Shape
shape_of None = shapes.Scalar
shape_of (Some array) = shapes.Array

abbrev pub cells_of : Option ArrayLength → ℕ
cells_of None = 1
cells_of (Some array) = array.size.value

-- the scopes behind the declarator of a local variable
abbrev pub after_local : Scopes → DeclaratorTree ExpressionTree → Scopes
after_local scopes d = with_local scopes d.name (shape_of d.array)

abbrev pub after_locals : Scopes → List (DeclaratorTree ExpressionTree) → Scopes
after_locals scopes ds = fold after_local scopes ds

-- the scopes behind the declarator of a global
abbrev pub after_global : Scopes → DeclaratorTree SignedNumber → Scopes
after_global scopes d = with_global scopes d.name.text (shape_of d.array) (cells_of d.array)

abbrev pub after_globals : Scopes → List (DeclaratorTree SignedNumber) → Scopes
after_globals scopes ds = fold after_global scopes ds

-- ---- functions

-- `()` stands for `(void)`, also in a prototype, where C17 6.7.6.3p14 says nothing of the parameters: an own choice
abbrev pub parameters_of : {N : Type 0} → ParametersTree N → List (Parameter N)
parameters_of NoParameters = []
parameters_of (Void at) = []
parameters_of (Listed first rest) = first ∷ map (λ further. further.1) rest

abbrev pub returns_value : ResultType → Bool
returns_value (results.Int at) = true
returns_value (results.Void at) = false

abbrev pub signature_of : {N : Type 0} → HeadTree N → Signature
signature_of head = record { returns = returns_value head.result; parameters = length (parameters_of head.parameters) }

abbrev pub signature_eq : Signature → Signature → Bool
signature_eq a b = (if a.returns then b.returns else not b.returns) && nat_eq a.parameters b.parameters

-- the scopes behind a parameter of a definition
abbrev pub after_parameter : Scopes → Parameter names.Name → Scopes
after_parameter scopes parameter = with_local scopes parameter.name shapes.Scalar

abbrev pub after_parameters : Scopes → List (Parameter names.Name) → Scopes
after_parameters scopes parameters = fold after_parameter scopes parameters

-- and behind one of a prototype, which may lack a name
abbrev pub after_optional_name : Scopes → Option names.Name → Scopes
after_optional_name scopes None = scopes
after_optional_name scopes (Some name) = with_local scopes name shapes.Scalar

abbrev pub after_optional : Scopes → Parameter (Option names.Name) → Scopes
after_optional scopes parameter = after_optional_name scopes parameter.name

abbrev pub after_optionals : Scopes → List (Parameter (Option names.Name)) → Scopes
after_optionals scopes parameters = fold after_optional scopes parameters

-- the scopes behind a function's declaration, which may repeat an earlier one
abbrev pub after_prototype : {N : Type 0} → Scopes → HeadTree N → Scopes
after_prototype scopes head = if is_declared scopes head.name.text then scopes else with_function scopes
    head.name.text (signature_of head)

-- and behind its definition
abbrev pub after_function : Scopes → HeadTree names.Name → Scopes
after_function scopes head = with_defined (after_prototype scopes head) head.name.text

-- the scopes behind an item
abbrev pub after_item : Scopes → ItemTree → Scopes
after_item scopes (Declaration d) = after_globals scopes (declarators_of d)
after_item scopes (Prototype head semicolon) = after_prototype scopes head
after_item scopes (Function f) = after_function scopes f.head

-- the functions that a source defines, and those that are there before it
abbrev pub after_definition : List (List ℕ) → ItemTree → List (List ℕ)
after_definition names (Declaration d) = names
after_definition names (Prototype head semicolon) = names
after_definition names (Function f) = with_name names f.head.name.text

abbrev pub definitions_of : List ItemTree → List (List ℕ)
definitions_of items = fold after_definition predeclared items
