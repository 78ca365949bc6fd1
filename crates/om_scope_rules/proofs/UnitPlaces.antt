-- The places of all functions of a source are among its tokens, in their order.
use Rattle.std.proofs.Common.{◌≡◌, List, [], ◌∷◌, ◌++◌, None, ap, append-nil, map, refl, sym, subst}
use Rattle.std.specs.List.{flat_map}
use Rattle.std.specs.Prelude.{IfSome}
use Rattle.std.proofs.lemmas.Grind.{flat_map-append}
use Rattle.om_lexer.specs.declared.token.Token.{Token}
use Rattle.om_scope_rules.proofs.Among.{none, further, before, together}
use Rattle.om_scope_rules.specs.TreePlaces.{AreAmong}
use Rattle.om_scope_rules.proofs.DeclaredPlaces.{parameters_among}
use Rattle.om_scope_rules.proofs.StatementPlaces.{AllAmong, statements_among}
use Rattle.om_scope_rules.proofs.Steps.{if_then}
use Rattle.om_scope_rules.specs.TreePlaces.{Place, Declared, function_places, statements_places, tree_places}
use Rattle.om_pragma.specs.declared.clause.Name as names
use Rattle.om_scope_tree.specs.ResolvedTree.{ResolvedFunctionTree, ResolvedTree}
use Rattle.om_scope_rules.specs.Perhaps.{all_along}
use Rattle.om_scope_rules.specs.Scopes.{Scopes, after_function, after_item, after_parameters, definitions_of, file_scope}
use Rattle.om_scope_rules.specs.Scopes.{inside, parameters_of}
use Rattle.om_scope_rules.specs.StatementResolution.{resolved_statements}
use Rattle.om_scope_rules.specs.UnitResolution.{item_functions, parameter_variable, resolution_of, resolved_function}
use Rattle.om_parser_tree.specs.Spelling.{block_spelling, definition_spelling, given_name, head_spelling, item_spelling}
use Rattle.om_parser_tree.specs.Spelling.{parameters_spelling, statement_spelling, statements_spelling, unit_spelling}
use Rattle.om_parser_tree.specs.Tree.{FunctionTree, HeadTree, ItemTree, Declaration, Prototype, Function, StatementTree}
use Rattle.om_parser_tree.specs.Tree.{UnitTree, statements}

-- ---- functions

abbrev FunctionAmong : List Token → ResolvedFunctionTree → Type 0
FunctionAmong ts function = AreAmong (function_places function) ts

abbrev parameter_places : HeadTree names.Name → List Place
parameter_places h = map Declared (map parameter_variable (parameters_of h.parameters))

head_among : (h : HeadTree names.Name) → AreAmong (parameter_places h) (definition_spelling h)
unfolding head_spelling
head_among h =
    let places = parameter_places h in
    further places _ _ (further places _ _ (further places _ _
    (before places (parameters_spelling given_name h.parameters) _ (parameters_among h.parameters))))

-- the tokens of a list of statements
pub spelled : (items : List StatementTree) → statements_spelling (statements items) ≡ flat_map statement_spelling items
unfolding statements_spelling
spelled [] = refl
spelled (s ∷ rest) = ap (λ ts. statement_spelling s ++ ts) (spelled rest)

function_among : (scopes : Scopes) (f : FunctionTree)
    → IfSome (resolved_function scopes f) (FunctionAmong (item_spelling (Function f)))
unfolding resolved_function item_spelling block_spelling
function_among scopes f =
    let behind_head = after_function scopes f.head in
    let within = after_parameters (inside behind_head) (parameters_of f.head.parameters) in
    let own = flat_map statement_spelling f.body.items in
    let goal = FunctionAmong (item_spelling (Function f)) in
    let all = statements_among within None (statements f.body.items) in
    let body_among = subst (λ ts. IfSome (resolved_statements within None (statements f.body.items)) (AllAmong ts))
    (spelled f.body.items) all in
    if_then (AllAmong own) goal _ _ body_among (λ body hb.
    let places = statements_places body in
    together (parameter_places f.head) places (definition_spelling f.head) (block_spelling f.body) (head_among f.head)
    (further places _ _ (before places own _ hb)))

-- ---- items

abbrev FunctionsAmong : List Token → List ResolvedFunctionTree → Type 0
FunctionsAmong ts functions = AreAmong (flat_map function_places functions) ts

-- it is a list of one
single : (ts : List Token) (function : ResolvedFunctionTree) → FunctionAmong ts function
    → FunctionsAmong ts (function ∷ [])
single ts function h =
    subst (λ ps. AreAmong ps ts) (sym (append-nil (function_places function))) h

item_among : (scopes : Scopes) (item : ItemTree)
    → IfSome (item_functions scopes item) (FunctionsAmong (item_spelling item))
unfolding item_functions
item_among scopes (Declaration d) = none _
item_among scopes (Prototype head semicolon) = none _
item_among scopes (Function f) =
    let ts = item_spelling (Function f) in
    if_then (FunctionAmong ts) (FunctionsAmong ts) _ _ (function_among scopes f) (λ function h. single ts function h)

items_among : (items : List ItemTree) (scopes : Scopes)
    → IfSome (all_along item_functions after_item scopes items) (FunctionsAmong (flat_map item_spelling items))
items_among [] scopes = none []
items_among (item ∷ items) scopes =
    let own = item_spelling item in
    let tail = flat_map item_spelling items in
    let goal = FunctionsAmong (own ++ tail) in
    if_then (FunctionsAmong own) goal _ _ (item_among scopes item) (λ fs hfs.
    if_then (FunctionsAmong tail) goal _ _ (items_among items (after_item scopes item)) (λ gs hgs.
    subst (λ ps. AreAmong ps (own ++ tail)) (sym (flat_map-append function_places fs gs))
    (together (flat_map function_places fs) (flat_map function_places gs) own tail hfs hgs)))

-- ---- a source

abbrev pub TreeAmong : List Token → ResolvedTree → Type 0
TreeAmong ts tree = AreAmong (tree_places tree) ts

pub unit_among : (unit : UnitTree) → IfSome (resolution_of unit) (TreeAmong (unit_spelling unit))
unfolding resolution_of unit_spelling
unit_among unit =
    let own = flat_map item_spelling unit.items in
    if_then (FunctionsAmong own) (TreeAmong (unit_spelling unit)) _ _
    (items_among unit.items (file_scope (definitions_of unit.items))) (λ functions h.
    before (flat_map function_places functions) own _ h)
