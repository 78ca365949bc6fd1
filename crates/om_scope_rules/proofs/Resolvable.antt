-- A proper tree without a breach has a resolution.
use Rattle.std.proofs.Common.{◌≡◌, true, List, [], ◌∷◌, All, None, refl}
use Rattle.std.specs.Prelude.{IsSome}
use Rattle.std.proofs.lemmas.List.Elements.{All-head, All-tail}
use Rattle.om_parser_tree.specs.Formed.{IsFunction, IsItem, IsUnit}
use Rattle.om_parser_tree.specs.Sizes.{AtomicsHaveForms, HasItemForms}
use Rattle.om_parser_tree.specs.Tree.{statements, FunctionTree, ItemTree, Declaration, Prototype, Function}
use Rattle.om_scope_rules.specs.Breaches.{breaches_of, main_breaches, rule_breaches}
use Rattle.om_scope_rules.specs.WholeLaws.{UnbrokenTreesResolve}
use Rattle.om_scope_rules.specs.Faults.{breaches_along}
use Rattle.om_scope_rules.specs.Perhaps.{all_along}
use Rattle.om_scope_rules.specs.Proper.{AreProper}
use Rattle.om_scope_rules.specs.Scopes.{Scopes, file_scope, definitions_of, inside, parameters_of, after_parameters}
use Rattle.om_scope_rules.specs.Scopes.{after_function, after_item}
use Rattle.om_scope_rules.specs.UnitResolution.{resolved_inside, resolved_function, item_functions, resolution_of}
use Rattle.om_scope_rules.specs.UnitRules.{flow_of, parameters_breaches, definition_breaches, body_breaches}
use Rattle.om_scope_rules.specs.UnitRules.{function_breaches, item_breaches}
use Rattle.om_scope_rules.specs.StatementRules.{statements_breaches}
use Rattle.om_scope_rules.proofs.SomeSteps.{some_then}
use Rattle.om_scope_rules.proofs.StatementsResolve.{has_statements}
use Rattle.om_scope_rules.proofs.Unbroken.{front, back}

has_body : (scopes : Scopes) (f : FunctionTree) → AreProper (statements f.body.items) → body_breaches scopes f ≡ []
    → IsSome (resolved_inside scopes f)
has_body scopes f proper whole =
    let within = after_parameters (inside scopes) (parameters_of f.head.parameters) in
    has_statements within (flow_of f.head) None (statements f.body.items) proper
    (back (parameters_breaches (inside scopes) (parameters_of f.head.parameters))
    (statements_breaches within (flow_of f.head) (statements f.body.items)) whole)

has_function : (scopes : Scopes) (f : FunctionTree) → AreProper (statements f.body.items)
    → function_breaches scopes f ≡ []
    → IsSome (resolved_function scopes f)
unfolding resolved_function
has_function scopes f proper whole =
    some_then (resolved_inside (after_function scopes f.head) f) _
    (has_body (after_function scopes f.head) f proper (back (definition_breaches scopes f.head)
    (body_breaches (after_function scopes f.head) f) whole)) (λ body. refl)

has_functions : (scopes : Scopes) (item : ItemTree) → IsItem item → HasItemForms true item
    → item_breaches scopes item ≡ [] → IsSome (item_functions scopes item)
unfolding item_functions IsItem IsFunction
has_functions scopes (Declaration d) formed forms whole = refl
has_functions scopes (Prototype head semicolon) formed forms whole = refl
has_functions scopes (Function f) formed forms whole = some_then (resolved_function scopes f) _
    (has_function scopes f (formed, forms) whole) (λ function. refl)

has_items : (items : List ItemTree) (scopes : Scopes) → All IsItem items → All (HasItemForms true) items
    → breaches_along item_breaches after_item scopes items ≡ []
    → IsSome (all_along item_functions after_item scopes items)
has_items [] scopes formed forms whole = refl
has_items (item ∷ items) scopes formed forms whole =
    let own = item_breaches scopes item in
    let others = breaches_along item_breaches after_item (after_item scopes item) items in
    let y = has_items items (after_item scopes item) (All-tail IsItem item items formed)
    (All-tail (HasItemForms true) item items forms) (back own others whole) in
    some_then (item_functions scopes item) _ (has_functions scopes item (All-head IsItem item items formed)
    (All-head (HasItemForms true) item items forms) (front own others whole)) (λ functions.
    some_then (all_along item_functions after_item (after_item scopes item) items) _ y (λ more. refl))

pub unbroken_trees_resolve : UnbrokenTreesResolve
unfolding breaches_of resolution_of IsUnit AtomicsHaveForms
unbroken_trees_resolve unit formed forms whole =
    let scopes = file_scope (definitions_of unit.items) in
    some_then (all_along item_functions after_item scopes unit.items) _
    (has_items unit.items scopes formed forms
    (front (rule_breaches unit) (main_breaches unit) whole)) (λ functions. refl)
