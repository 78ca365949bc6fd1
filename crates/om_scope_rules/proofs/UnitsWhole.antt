-- A source that breaks no rule resolves to a whole tree.
use Rattle.std.proofs.Common.{◌≡◌, ℕ, ◌+◌, ◌<◌, ◌≤◌, true, false, List, [], ◌∷◌, ◌++◌, append_assoc, append-nil, All}
use Rattle.std.proofs.Common.{Option, None, Some, codes, fold, map, length, refl, sym, ap, subst, ◌∙◌, arith}
use Rattle.std.specs.Prelude.{Any, IfSome, nat_le}
use Rattle.std.specs.List.{flat_map}
use Rattle.std.specs.Map.{lookup}
use Rattle.std.specs.Str.{bytes_eq}
use Rattle.std.proofs.lemmas.Bool.Decides.{nat_tests}
use Rattle.std.proofs.lemmas.List.{length-map}
use Rattle.om_lexer.specs.declared.fault.FaultCode.TheVariants as faults
use Rattle.om_pragma.specs.declared.clause.Name as names
use Rattle.om_parser_tree.specs.declared.tree.Parameter.{Parameter}
use Rattle.om_parser_tree.specs.Formed.{IsFunction, IsUnit}
use Rattle.om_parser_tree.specs.Tree.{statements, FunctionTree, ItemTree, UnitTree}
use Rattle.om_scope_tree.specs.declared.resolved.GlobalVariable.{GlobalVariable}
use Rattle.om_scope_tree.specs.declared.resolved.Shape.TheVariants as shapes
use Rattle.om_scope_tree.specs.declared.resolved.Variable.TheVariants as variables
use Rattle.om_scope_tree.specs.ResolvedTree.{ResolvedFunctionTree}
use Rattle.om_scope_tree.specs.Whole.{Around, AreWholeItems, IsMain, IsWholeFunction, IsWholeTree, Local, is_main, scalar}
use Rattle.om_scope_rules.specs.declared.limits.TheConstants.{PARAMETER_LIMIT}
use Rattle.om_scope_rules.specs.declared.names.Meaning.{Meaning}
use Rattle.om_scope_rules.specs.declared.names.Meaning.TheVariants as meanings
use Rattle.om_scope_rules.specs.Breaches.{breaches_of, main_breaches, rule_breaches}
use Rattle.om_scope_rules.specs.Faults.{breaches_along}
use Rattle.om_scope_rules.specs.Knowing.{Agrees, IsThere, Known}
use Rattle.om_scope_rules.specs.Perhaps.{◌>>=◌, all_along}
use Rattle.om_scope_rules.specs.Scopes.{Scopes, after_function, after_item, after_parameter, after_parameters}
use Rattle.om_scope_rules.specs.Scopes.{definitions_of, file_scope, inside, meaning_outside, parameters_of, predeclared}
use Rattle.om_scope_rules.specs.Scopes.{returns_value}
use Rattle.om_scope_rules.specs.StatementRules.{redeclared_breaches, statements_breaches}
use Rattle.om_scope_rules.specs.UnitResolution.{globals_of, item_functions, parameter_variable}
use Rattle.om_scope_rules.specs.UnitResolution.{resolution_of, resolved_function, resolved_inside}
use Rattle.om_scope_rules.specs.UnitRules.{body_breaches, definition_breaches, flow_of, function_breaches, next_parameter}
use Rattle.om_scope_rules.specs.UnitRules.{parameter_breaches, parameters_breaches}
use Rattle.om_scope_rules.proofs.FileFunctions.{AreDefined, IsOwnMain, IsSigned, callee, distinct_functions, file_names}
use Rattle.om_scope_rules.proofs.FileFunctions.{function_name, own_main, signed}
use Rattle.om_scope_rules.proofs.FileGlobals.{IsShaped, cells_items, names_shaped}
use Rattle.om_scope_rules.proofs.FileScopes.{AtFile, Means, at_function, items_keep, of_items}
use Rattle.om_scope_rules.proofs.Knowing.{known_inside, known_local}
use Rattle.om_scope_rules.proofs.Steps.{if_given, if_then}
use Rattle.om_scope_rules.proofs.TreesWhole.{whole_items}
use Rattle.om_scope_rules.proofs.Unbroken.{back, front, not_broken}
use Rattle.om_scope_rules.proofs.Uses.{is_resolved, tree_of}

-- ---- parameters

above : (limit n : ℕ) → nat_le limit n ≡ false → n < limit
above limit n h = grind (arith, nat_tests)

few_parameters : (ps : List (Parameter names.Name)) (before : ℕ) (scopes : Scopes) → before ≤ 16
    → breaches_along parameter_breaches next_parameter (before, scopes) ps ≡ [] → before + length ps ≤ 16
few_parameters [] before scopes few w = omega (arith, few)
few_parameters (p ∷ ps) before scopes few w =
    let next = next_parameter (before, scopes) p in
    let own = front (parameter_breaches (before, scopes) p) (breaches_along parameter_breaches next_parameter next
    ps) w in
    let room = above 16 before (not_broken (nat_le PARAMETER_LIMIT before) faults.TooMany p.int.start
    (front _ (redeclared_breaches scopes p.name) own)) in
    let rest = few_parameters ps (before + 1) next.1 (omega (arith, room))
    (back (parameter_breaches (before, scopes) p) (breaches_along parameter_breaches next_parameter next ps) w) in
    omega (arith, rest)

module _ (globals : List GlobalVariable) (functions : List ResolvedFunctionTree) where
  known_parameters : (ps : List (Parameter names.Name)) (locals : List Local) (scopes : Scopes)
      → Known globals functions locals scopes
      → Known globals functions (locals ++ map scalar (map parameter_variable ps)) (after_parameters scopes ps)
  known_parameters [] locals scopes h = rw append-nil h
  known_parameters (p ∷ ps) locals scopes h =
      let own = scalar (parameter_variable p) in
      let rest = map scalar (map parameter_variable ps) in
      subst (λ all. Known globals functions all (after_parameters (after_parameter scopes p) ps))
      (append_assoc locals (own ∷ []) rest)
      (known_parameters ps (locals ++ own ∷ []) (after_parameter scopes p)
      (known_local globals functions locals scopes p.name shapes.Scalar h))

  -- ---- what is known at file scope

  module _ (definitions : List (List ℕ)) (final : Scopes) (printf : Means final (codes "printf") meanings.Printf)
      (shaped : (name : List ℕ) → IfSome (lookup (bytes_eq name) final.inner) (IsShaped globals))
      (signs : All (IsSigned final) functions) (are : definitions ≡ predeclared ++ map function_name functions) where
    there : (name : List ℕ) (m : Meaning) → Means final name m → IfSome (Some m) (IsShaped globals)
        → IsThere globals functions [] definitions name m
    there name (meanings.Variable (variables.Global number) shape) means h = h
    there name (meanings.Variable (variables.Local at) shape) means h = absurd h
    there name (meanings.Function signature) means h = callee functions final signs name signature means printf
        definitions are
    there name meanings.Printf means h = tt

    known_at : (scopes : Scopes) → AtFile definitions scopes → ((name : List ℕ) (m : Meaning) → Means scopes name m
        → Means final name m) → Known globals functions [] scopes
    known_at scopes h keep = record {
      inner = λ name. by name (lookup (bytes_eq name) scopes.inner) refl;
      outer = λ name. subst (λ outer. IfSome (meaning_outside outer name)
          (IsThere globals functions [] scopes.definitions name)) (sym h.outer) tt;
    }
      where
        by : (name : List ℕ) (o : Option Meaning) → lookup (bytes_eq name) scopes.inner ≡ o
            → IfSome o (IsThere globals functions [] scopes.definitions name)
        by name None e = tt
        by name (Some m) e =
            let means = keep name m e in
            subst (λ names. IsThere globals functions [] names name m) (sym h.definitions_are)
            (there name m means (subst (λ o. IfSome o (IsShaped globals)) means (shaped name)))

    -- ---- functions

    -- where the body of a function begins
    abbrev body_around : FunctionTree → Around
    body_around f = record {
      globals = globals;
      functions = functions;
      locals = map scalar (map parameter_variable (parameters_of f.head.parameters));
      returns = returns_value f.head.result;
      breaks = false;
      continues = false;
      in_construct = false;
    }

    function_whole : (scopes : Scopes) (f : FunctionTree) (rest : List ItemTree) → AtFile definitions scopes
        → fold after_item (after_function scopes f.head) rest ≡ final
        → IsFunction f → function_breaches scopes f ≡ [] → IfSome (resolved_function scopes f)
        (IsWholeFunction globals functions)
    unfolding resolved_function IsFunction
    function_whole scopes f rest h e formed w =
        let behind = after_function scopes f.head in
        let ps = parameters_of f.head.parameters in
        let body = back (definition_breaches scopes f.head) (body_breaches behind f) w in
        let listed = parameters_breaches (inside behind) ps in
        let items = statements_breaches (after_parameters (inside behind) ps) (flow_of f.head)
        (statements f.body.items) in
        let known = known_at behind (at_function definitions scopes f.head h)
        (λ name m means. ap (λ scopes. lookup (bytes_eq name) scopes.inner) (sym e) ∙ items_keep rest behind name m
        means) in
        let agrees : Agrees (body_around f) (flow_of f.head) = record {
          breaks = refl;
          continues = refl;
          returns = refl;
          in_construct = refl;
        } in
        let few = few_parameters ps 0 (inside behind) (omega arith) (front listed items body) in
        if_then (AreWholeItems (body_around f)) (IsWholeFunction globals functions) (resolved_inside behind f) _
        (whole_items (body_around f) (after_parameters (inside behind) ps) (flow_of f.head) None
        (statements f.body.items)
        (known_parameters ps [] (inside behind) (known_inside globals functions [] behind known)) agrees formed
        (back listed items body))
        (λ body hb. record { parameters = omega (arith, few, length-map ps parameter_variable); body = hb })

-- ---- `main`

any_main : (xs : List ResolvedFunctionTree) → Any (λ x. is_main x ≡ true) xs → All IsOwnMain xs → Any IsMain xs
any_main xs m all = (m.0, m.1, m.2, m.3, subst IsOwnMain m.3 (all m.0 m.1 m.2) m.4)

-- ---- the whole source

-- a unit without a breach resolves to a whole tree
pub whole_unit : (unit : UnitTree) → IsUnit unit → breaches_of unit ≡ [] → IfSome (resolution_of unit) IsWholeTree
unfolding breaches_of resolution_of IsUnit
whole_unit unit formed none = by (all_along item_functions after_item scopes items) refl
  where
    items : List ItemTree
    items = unit.items

    definitions : List (List ℕ)
    definitions = definitions_of items

    scopes : Scopes
    scopes = file_scope definitions

    globals : List GlobalVariable
    globals = flat_map globals_of items

    final : Scopes
    final = fold after_item scopes items

    rules : rule_breaches unit ≡ []
    rules = front (rule_breaches unit) (main_breaches unit) none

    start : AtFile definitions scopes
    start = record { outer = refl; definitions_are = refl }

    by : (o : Option (List ResolvedFunctionTree)) → all_along item_functions after_item scopes items ≡ o
        → IfSome (o >>= λ functions. Some (tree_of unit functions)) IsWholeTree
    by None e = tt
    by (Some functions) e =
        let few : scopes.cells ≤ 65536 = omega arith in
        let cells = cells_items items scopes few rules in
        let are = if_given (AreDefined items) (all_along item_functions after_item scopes items) functions
        (file_names items rules) e in
        let signs = if_given (All (IsSigned final)) (all_along item_functions after_item scopes items) functions
        (of_items (IsSigned final) definitions final (signed definitions final) items scopes start refl formed
        rules) e in
        let mains = if_given (All IsOwnMain) (all_along item_functions after_item scopes items) functions
        (of_items IsOwnMain definitions final (own_main definitions final) items scopes start refl formed rules) e in
        let printf = items_keep items scopes (codes "printf") meanings.Printf refl in
        let shaped = names_shaped items scopes refl (tt, (tt, (tt, tt))) in
        let wholes = if_given (All (IsWholeFunction globals functions)) (all_along item_functions after_item scopes
        items) functions
        (of_items (IsWholeFunction globals functions) definitions final
        (function_whole globals functions definitions final printf shaped signs are) items scopes start refl
        formed rules) e in
        let known = is_resolved unit (tree_of unit functions) none
        (ap (λ o. o >>= λ functions. Some (tree_of unit functions)) e) in
        record {
          cells = cells.0;
          elements = cells.1;
          count = known.functions;
          names = distinct_functions items functions are;
          main = any_main functions known.main mains;
          functions = wholes;
        }
