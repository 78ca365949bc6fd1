-- The functions of a source have tokens enough for all in them that gets a number, and for themselves.
use Rattle.std.proofs.Common.{◌+◌, List, [], ◌∷◌, ◌++◌, None, map, sum, subst}
use Rattle.std.specs.List.{flat_map}
use Rattle.std.specs.Prelude.{IfSome}
use Rattle.om_lexer.specs.declared.token.Token.{Token}
use Rattle.om_scope_tree.specs.ResolvedTree.{ResolvedFunctionTree, ResolvedTree}
use Rattle.om_scope_tree.specs.Weights.{function_weight, statements_weight, tree_weight}
use Rattle.om_scope_rules.proofs.Fitting.{Fits, nothing, behind, before, counted, together, with_all, with_one}
use Rattle.om_scope_rules.proofs.StatementWeights.{StatementsFit, statements_fit}
use Rattle.om_scope_rules.proofs.Steps.{if_then}
use Rattle.om_scope_rules.proofs.UnitPlaces.{spelled}
use Rattle.om_scope_rules.specs.Perhaps.{all_along}
use Rattle.om_scope_rules.specs.Scopes.{Scopes, after_function, after_item, after_parameters, definitions_of, file_scope}
use Rattle.om_scope_rules.specs.Scopes.{inside, parameters_of}
use Rattle.om_scope_rules.specs.StatementResolution.{resolved_statements}
use Rattle.om_scope_rules.specs.UnitResolution.{item_functions, resolution_of, resolved_function}
use Rattle.om_parser_tree.specs.Spelling.{block_spelling, definition_spelling, item_spelling, statement_spelling}
use Rattle.om_parser_tree.specs.Spelling.{unit_spelling}
use Rattle.om_parser_tree.specs.Tree.{FunctionTree, ItemTree, Declaration, Prototype, Function, UnitTree, statements}

abbrev FunctionFits : List Token → ResolvedFunctionTree → Type 0
FunctionFits ts function = Fits ts (function_weight function)

abbrev FunctionsFit : List Token → List ResolvedFunctionTree → Type 0
FunctionsFit ts functions = Fits ts (sum (map function_weight functions))

function_fits : (scopes : Scopes) (f : FunctionTree)
    → IfSome (resolved_function scopes f) (FunctionFits (item_spelling (Function f)))
unfolding resolved_function item_spelling block_spelling
function_fits scopes f =
    let behind_head = after_function scopes f.head in
    let within = after_parameters (inside behind_head) (parameters_of f.head.parameters) in
    let own = flat_map statement_spelling f.body.items in
    let all = statements_fit within None (statements f.body.items) in
    let body_fits = subst (λ ts. IfSome (resolved_statements within None (statements f.body.items)) (StatementsFit ts))
    (spelled f.body.items) all in
    if_then (StatementsFit own) (FunctionFits (item_spelling (Function f))) _ _ body_fits (λ body hb.
    let n = statements_weight body in
    behind (1 + n) (definition_spelling f.head) (block_spelling f.body) (counted n _ _ (before n own _ hb)))

-- ---- items

item_fits : (scopes : Scopes) (item : ItemTree)
    → IfSome (item_functions scopes item) (FunctionsFit (item_spelling item))
unfolding item_functions
item_fits scopes (Declaration d) = nothing _
item_fits scopes (Prototype head semicolon) = nothing _
item_fits scopes (Function f) =
    let ts = item_spelling (Function f) in
    if_then (FunctionFits ts) (FunctionsFit ts) _ _ (function_fits scopes f) (λ function h.
    with_one function_weight ts function h)

items_fit : (items : List ItemTree) (scopes : Scopes)
    → IfSome (all_along item_functions after_item scopes items) (FunctionsFit (flat_map item_spelling items))
items_fit [] scopes = nothing []
items_fit (item ∷ items) scopes =
    let own = item_spelling item in
    let tail = flat_map item_spelling items in
    let all = own ++ tail in
    if_then (FunctionsFit own) (FunctionsFit all) _ _ (item_fits scopes item) (λ fs hfs.
    if_then (FunctionsFit tail) (FunctionsFit all) _ _ (items_fit items (after_item scopes item)) (λ gs hgs.
    with_all function_weight all fs gs
    (together (sum (map function_weight fs)) (sum (map function_weight gs)) own tail hfs hgs)))

-- ---- a source

abbrev pub TreeFits : List Token → ResolvedTree → Type 0
TreeFits ts tree = Fits ts (tree_weight tree)

pub unit_fits : (unit : UnitTree) → IfSome (resolution_of unit) (TreeFits (unit_spelling unit))
unfolding resolution_of unit_spelling
unit_fits unit =
    let own = flat_map item_spelling unit.items in
    if_then (FunctionsFit own) (TreeFits (unit_spelling unit)) _ _
    (items_fit unit.items (file_scope (definitions_of unit.items))) (λ functions h.
    before (sum (map function_weight functions)) own _ h)
