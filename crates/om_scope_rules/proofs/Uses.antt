-- Where no rule is broken, each use has its variable, and there is a `main`.
use Rattle.std.proofs.Common.{◌≡◌, ℕ, ◌+◌, ◌≤◌, Bool, true, false, ◌||◌, not, List, [], ◌∷◌, ◌++◌, Option, None, Some}
use Rattle.std.proofs.Common.{All, map, length, codes, refl, sym, ap, subst, ◌∙◌, arith, length-append}
use Rattle.std.specs.Prelude.{IfSome}
use Rattle.std.specs.List.{flat_map, list_any}
use Rattle.std.specs.Str.{bytes_eq}
use Rattle.std.proofs.lemmas.List.Elements.{All-nil, All-cons, All-append}
use Rattle.std.proofs.lemmas.List.Folds.{Any-from_list_any, list_any-append}
use Rattle.om_lexer.specs.declared.fault.FaultCode.TheVariants as faults
use Rattle.om_parser_tree.specs.declared.tree.SignedNumber.{SignedNumber}
use Rattle.om_parser_tree.specs.Tree.{statements, DeclaratorTree, HeadTree, FunctionTree, ItemTree, Declaration, Prototype}
use Rattle.om_parser_tree.specs.Tree.{Function, UnitTree}
use Rattle.om_scope_rules.specs.declared.names.Meaning.TheVariants as meanings
use Rattle.om_scope_tree.specs.declared.resolved.Variable.TheVariants as variables
use Rattle.om_scope_rules.specs.Breaches.{breaches_of, is_main, main_breaches, rule_breaches}
use Rattle.om_scope_rules.specs.Faults.{breach_if}
use Rattle.om_scope_rules.specs.Perhaps.{◌>>=◌, all_along}
use Rattle.om_scope_tree.specs.ResolvedTree.{ResolvedFunctionTree, ResolvedTree}
use Rattle.om_scope_rules.specs.Scopes.{Scopes, file_scope, definitions_of, inside, parameters_of, is_declared, shape_of}
use Rattle.om_scope_rules.specs.Scopes.{declarators_of, after_global, after_globals, after_parameters, after_prototype}
use Rattle.om_scope_rules.specs.Scopes.{after_function, after_item, with_function, signature_of}
use Rattle.om_scope_rules.specs.UnitResolution.{global_of, globals_of, resolved_inside, resolved_function, item_functions}
use Rattle.om_scope_rules.specs.UnitResolution.{resolution_of}
use Rattle.om_scope_tree.specs.Uses.{StatementsUseVariables, FunctionUsesVariables, is_main_function, IsResolved}
use Rattle.om_scope_rules.proofs.GlobalsBelow.{Below, more, scope_push, below_inside, below_parameters, below_prototype}
use Rattle.om_scope_rules.proofs.GlobalsBelow.{below_function}
use Rattle.om_scope_rules.proofs.KeptLimits.{Fits, items_fit, functions_fit}
use Rattle.om_scope_rules.proofs.StatementUses.{statements_use}
use Rattle.om_scope_rules.proofs.Steps.{if_then, if_any, if_either}
use Rattle.om_scope_rules.proofs.Unbroken.{front, back}

-- ---- functions

function_uses : (n : ℕ) (scopes : Scopes) (f : FunctionTree) → Below n scopes → IfSome (resolved_function scopes f)
    (FunctionUsesVariables n)
unfolding resolved_function
function_uses n scopes f h =
    let behind = after_function scopes f.head in
    let within = below_parameters n (parameters_of f.head.parameters) (inside behind)
    (below_inside n behind (below_function n scopes f.head h)) in
    if_then (StatementsUseVariables n) (FunctionUsesVariables n) (resolved_inside behind f) _
    (statements_use n (after_parameters (inside behind) (parameters_of f.head.parameters)) None
    (statements f.body.items) within) (λ body hb. hb)

item_uses : (n : ℕ) (scopes : Scopes) (item : ItemTree) → Below n scopes → IfSome (item_functions scopes item)
    (All (FunctionUsesVariables n))
unfolding item_functions
item_uses n scopes (Declaration d) h = All-nil (FunctionUsesVariables n)
item_uses n scopes (Prototype head semicolon) h = All-nil (FunctionUsesVariables n)
item_uses n scopes (Function f) h =
    if_then (FunctionUsesVariables n) (All (FunctionUsesVariables n)) (resolved_function scopes f) _
    (function_uses n scopes f h)
    (λ x hx. All-cons (FunctionUsesVariables n) x [] hx (All-nil (FunctionUsesVariables n)))

-- ---- globals

-- the globals of scopes are numbered below how many there are
abbrev Numbered : Scopes → Type 0
Numbered scopes = Below scopes.globals scopes

numbered_global : (scopes : Scopes) (d : DeclaratorTree SignedNumber) → Numbered scopes
    → Numbered (after_global scopes d)
numbered_global scopes d h =
    let further = more scopes.globals (scopes.globals + 1) scopes (omega arith) h in
    record {
      inner = scope_push (scopes.globals + 1) scopes.inner
          (d.name.text, meanings.Variable (variables.Global scopes.globals) (shape_of d.array)) further.inner
          (omega arith);
      outer = further.outer;
    }

numbered_globals : (ds : List (DeclaratorTree SignedNumber)) (scopes : Scopes) → Numbered scopes
    → Numbered (after_globals scopes ds) × ((after_globals scopes ds).globals ≡ scopes.globals + length
    (map global_of ds))
numbered_globals [] scopes h = (h, omega arith)
numbered_globals (d ∷ ds) scopes h = let rest = numbered_globals ds (after_global scopes d)
    (numbered_global scopes d h) in (rest.0, omega (arith, rest.1))

prototype_globals : {N : Type 0} (scopes : Scopes) (head : HeadTree N)
    → (after_prototype scopes head).globals ≡ scopes.globals
prototype_globals scopes head = if_either (λ behind. behind.globals ≡ scopes.globals)
    (is_declared scopes head.name.text) scopes (with_function scopes head.name.text (signature_of head)) refl refl

numbered_item : (scopes : Scopes) (item : ItemTree) → Numbered scopes → Numbered (after_item scopes item)
    × ((after_item scopes item).globals ≡ scopes.globals + length (globals_of item))
numbered_item scopes (Declaration d) h = numbered_globals (declarators_of d) scopes h
numbered_item scopes (Prototype head semicolon) h =
    let same = prototype_globals scopes head in (
      subst (λ n. Below n (after_prototype scopes head)) (sym same) (below_prototype scopes.globals scopes head h),
      omega (arith, same),
    )
numbered_item scopes (Function f) h =
    let same = prototype_globals scopes f.head in (
      subst (λ n. Below n (after_function scopes f.head)) (sym same) (below_function scopes.globals scopes f.head h),
      omega (arith, same),
    )

-- all functions use the globals of the whole source
items_use : (items : List ItemTree) (scopes : Scopes) (n : ℕ) → Numbered scopes → scopes.globals + length
    (flat_map globals_of items) ≤ n → IfSome (all_along item_functions after_item scopes items)
    (All (FunctionUsesVariables n))
items_use [] scopes n h total = All-nil (FunctionUsesVariables n)
items_use (item ∷ items) scopes n h total =
    let one = numbered_item scopes item h in
    let left = length-append (globals_of item) (flat_map globals_of items) in
    if_then (All (FunctionUsesVariables n)) (All (FunctionUsesVariables n)) (item_functions scopes item) _
    (item_uses n scopes item (more scopes.globals n scopes (omega (arith, total)) h)) (λ xs hxs.
    if_then (All (FunctionUsesVariables n)) (All (FunctionUsesVariables n)) (all_along item_functions after_item
    (after_item scopes item) items) _
    (items_use items (after_item scopes item) n one.0 (omega (arith, total, one.1, left)))
    (λ ys hys. All-append (FunctionUsesVariables n) xs ys hxs hys))

-- ---- `main`

-- one of the functions is `main` where one of the items is
abbrev HasMain : List ItemTree → List ResolvedFunctionTree → Type 0
HasMain items functions = list_any is_main_function functions ≡ list_any is_main items

pub function_name : (scopes : Scopes) (f : FunctionTree) → IfSome (resolved_function scopes f)
    (λ x. x.name ≡ f.head.name.text)
unfolding resolved_function
function_name scopes f =
    let own = resolved_inside (after_function scopes f.head) f in
    if_then (λ body. Unit {0}) (λ x. x.name ≡ f.head.name.text) own _ (if_any own) (λ body h. refl)

item_main : (scopes : Scopes) (item : ItemTree) → IfSome (item_functions scopes item) (HasMain (item ∷ []))
unfolding item_functions
item_main scopes (Declaration d) = refl
item_main scopes (Prototype head semicolon) = refl
item_main scopes (Function f) =
    if_then (λ x. x.name ≡ f.head.name.text) (HasMain (Function f ∷ [])) (resolved_function scopes f) _
    (function_name scopes f)
    (λ x same. ap (λ name. bytes_eq name (codes "main") || false) same)

any_append : (xs ys : List ResolvedFunctionTree) → list_any is_main_function (xs ++ ys)
    ≡ (list_any is_main_function xs || list_any is_main_function ys)
any_append xs ys = list_any-append is_main_function xs ys

items_main : (items : List ItemTree) (scopes : Scopes) → IfSome (all_along item_functions after_item scopes items)
    (HasMain items)
items_main [] scopes = refl
items_main (item ∷ items) scopes =
    if_then (HasMain (item ∷ [])) (HasMain (item ∷ items)) (item_functions scopes item) _ (item_main scopes item)
    (λ xs hxs.
    if_then (HasMain items) (HasMain (item ∷ items)) (all_along item_functions after_item (after_item scopes item)
    items) _ (items_main items (after_item scopes item)) (λ ys hys.
    any_append xs ys ∙ either (is_main item) (list_any is_main_function xs) (list_any is_main_function ys)
    (list_any is_main items) hxs hys))
  where
    either : (own first rest others : Bool) → first ≡ (own || false) → rest ≡ others → (first || rest) ≡ (own || others)
    either true first rest others e f = ap (λ b. b || rest) e
    either false first rest others e f = ap (λ b. b || rest) e ∙ f

main_there : (test : Bool) (at : ℕ) → breach_if (not test) faults.NoMain at ≡ [] → test ≡ true
main_there true at e = refl
main_there false at e = cc

abbrev pub tree_of : UnitTree → List ResolvedFunctionTree → ResolvedTree
tree_of unit functions = record { globals = flat_map globals_of unit.items; functions = functions }

-- what resolving promises of the tree that it gives
pub is_resolved : (unit : UnitTree) (tree : ResolvedTree) → breaches_of unit ≡ [] → resolution_of unit ≡ Some tree
    → IsResolved tree
unfolding breaches_of resolution_of
is_resolved unit tree none e =
    let scopes = file_scope (definitions_of unit.items) in
    let rules = front (rule_breaches unit) (main_breaches unit) none in
    let main = main_there (list_any is_main unit.items) unit.end.start
    (back (rule_breaches unit) (main_breaches unit) none) in
    let cells : 0 ≤ 65536 = omega arith in
    let defined : 3 ≤ 259 = omega arith in
    let total : 0 + length (flat_map globals_of unit.items) ≤ length (flat_map globals_of unit.items) = omega arith in
    let start : Numbered scopes = record { inner = (tt, (tt, (tt, tt))); outer = tt } in
    by (all_along item_functions after_item scopes unit.items) main
    (items_fit unit.items scopes cells rules)
    (functions_fit unit.items scopes defined rules)
    (items_main unit.items scopes)
    (items_use unit.items scopes (length (flat_map globals_of unit.items)) start total) e
  where
    by : (o : Option (List ResolvedFunctionTree)) → list_any is_main unit.items ≡ true
        → 0 + length (flat_map globals_of unit.items) ≤ 65536 → IfSome o (Fits 3) → IfSome o (HasMain unit.items)
        → IfSome o (All (FunctionUsesVariables (length (flat_map globals_of unit.items))))
        → (o >>= λ functions. Some (tree_of unit functions)) ≡ Some tree → IsResolved tree
    by None main few fits named uses e = cc
    by (Some functions) main few fits named uses e =
        let same : tree_of unit functions ≡ tree = cc in
        subst IsResolved same (record {
          globals = omega (arith, few);
          functions = omega (arith, fits);
          main = Any-from_list_any is_main_function functions (named ∙ main);
          uses = uses;
        })
