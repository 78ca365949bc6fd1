-- Declarations, and the heads of `for`, have tokens enough for the `printf`s in them.
use Rattle.std.proofs.Common.{ℕ, ◌+◌, List, [], ◌∷◌, ◌++◌, Option, None, Some, map, sum}
use Rattle.std.specs.List.{flat_map}
use Rattle.std.specs.Prelude.{IfSome}
use Rattle.om_lexer.specs.declared.token.Span.{Span}
use Rattle.om_lexer.specs.declared.token.Token.{Token}
use Rattle.om_scope_tree.specs.ResolvedTree.{ResolvedDeclaratorTree, ResolvedStartTree}
use Rattle.om_scope_tree.specs.Weights.{declarator_weight, expression_weight, perhaps_weight, start_weight}
use Rattle.om_scope_rules.proofs.ExpressionWeights.{ExpressionFits, expression_fits}
use Rattle.om_scope_rules.proofs.Fitting.{Fits, nothing, further, behind, before, together, with_first}
use Rattle.om_scope_rules.proofs.Steps.{if_then}
use Rattle.om_scope_rules.specs.Scopes.{Scopes, after_local, behind_commas, declarators_of}
use Rattle.om_scope_rules.specs.StatementResolution.{resolved_declarator, resolved_declarators, resolved_initial}
use Rattle.om_scope_rules.specs.StatementResolution.{resolved_start}
use Rattle.om_parser_tree.specs.Spelling.{array_spelling, declaration_spelling, declarator_spelling, expression_spelling}
use Rattle.om_parser_tree.specs.Spelling.{for_head_spelling, for_start_spelling, further_spelling, initializer_spelling}
use Rattle.om_parser_tree.specs.Spelling.{local_spelling, perhaps}
use Rattle.om_parser_tree.specs.Tree.{ExpressionTree, InitializerTree, DeclaratorTree, DeclarationTree, ForStartTree, Nothing}
use Rattle.om_parser_tree.specs.Tree.{StartExpression, StartDeclaration, ForHeadTree}

-- there are tokens enough for a declarator, for several, and for what a `for` begins with
abbrev DeclaratorFits : List Token → ResolvedDeclaratorTree → Type 0
DeclaratorFits ts d = Fits ts (declarator_weight d)

abbrev pub DeclaratorsFit : List Token → List ResolvedDeclaratorTree → Type 0
DeclaratorsFit ts ds = Fits ts (sum (map declarator_weight ds))

abbrev pub StartFits : List Token → ResolvedStartTree → Type 0
StartFits ts start = Fits ts (start_weight start)

-- ---- declarations

-- the tokens of an initializer, of a declarator of a block or a `for`, and of one behind its comma
abbrev initial_tokens : Option (InitializerTree ExpressionTree) → List Token
initial_tokens = perhaps (initializer_spelling expression_spelling)

abbrev own_tokens : DeclaratorTree ExpressionTree → List Token
own_tokens = declarator_spelling expression_spelling

abbrev further_tokens : Span × DeclaratorTree ExpressionTree → List Token
further_tokens = further_spelling expression_spelling

initial_fits : (scopes : Scopes) (initializer : Option (InitializerTree ExpressionTree))
    → IfSome (resolved_initial scopes initializer) (λ x. Fits (initial_tokens initializer) (perhaps_weight x))
unfolding initializer_spelling
initial_fits scopes None = nothing []
initial_fits scopes (Some i) =
    let own = expression_spelling i.value in
    if_then (ExpressionFits own) (λ x. Fits (initial_tokens (Some i)) (perhaps_weight x)) _ _
    (expression_fits scopes i.value) (λ e h. further (expression_weight e) _ own h)

declarator_fits : (scopes : Scopes) (d : DeclaratorTree ExpressionTree)
    → IfSome (resolved_declarator scopes d) (DeclaratorFits (own_tokens d))
unfolding resolved_declarator declarator_spelling
declarator_fits scopes d =
    let own = initial_tokens d.initializer in
    let array = perhaps array_spelling d.array in
    if_then (λ x. Fits own (perhaps_weight x)) (DeclaratorFits (own_tokens d)) _ _
    (initial_fits (after_local scopes d) d.initializer) (λ x h.
    let n = perhaps_weight x in
    further n _ (array ++ own) (behind n array own h))

further_fit : (rest : List (Span × DeclaratorTree ExpressionTree)) (scopes : Scopes)
    → IfSome (resolved_declarators scopes (behind_commas rest)) (DeclaratorsFit (flat_map further_tokens rest))
unfolding further_spelling
further_fit [] scopes = nothing []
further_fit (d ∷ rest) scopes =
    let own = own_tokens d.1 in
    let tail = flat_map further_tokens rest in
    let all = flat_map further_tokens (d ∷ rest) in
    if_then (DeclaratorFits own) (DeclaratorsFit all) _ _ (declarator_fits scopes d.1) (λ x hx.
    if_then (DeclaratorsFit tail) (DeclaratorsFit all) _ _ (further_fit rest (after_local scopes d.1)) (λ xs hxs.
    let m = declarator_weight x in
    let n = sum (map declarator_weight xs) in
    with_first declarator_weight all x xs (further (m + n) _ (own ++ tail) (together m n own tail hx hxs))))

pub declaration_fits : (scopes : Scopes) (d : DeclarationTree ExpressionTree)
    → IfSome (resolved_declarators scopes (declarators_of d)) (DeclaratorsFit (local_spelling d))
unfolding declaration_spelling
declaration_fits scopes d =
    let own = own_tokens d.first in
    let tail = flat_map further_tokens d.rest in
    let all = local_spelling d in
    if_then (DeclaratorFits own) (DeclaratorsFit all) _ _ (declarator_fits scopes d.first) (λ x hx.
    if_then (DeclaratorsFit tail) (DeclaratorsFit all) _ _ (further_fit d.rest (after_local scopes d.first)) (λ xs hxs.
    let m = declarator_weight x in
    let n = sum (map declarator_weight xs) in
    with_first declarator_weight all x xs (further (m + n) _ _ (before (m + n) (own ++ tail) _
    (together m n own tail hx hxs)))))

-- ---- what a `for` begins with

pub start_fits : (scopes : Scopes) (start : ForStartTree)
    → IfSome (resolved_start scopes start) (StartFits (for_start_spelling start))
unfolding resolved_start for_start_spelling
start_fits scopes (Nothing semicolon) = nothing _
start_fits scopes (StartExpression e semicolon) =
    let own = expression_spelling e in
    if_then (ExpressionFits own) (StartFits (for_start_spelling (StartExpression e semicolon))) _ _
    (expression_fits scopes e) (λ x h. before (expression_weight x) own _ h)
start_fits scopes (StartDeclaration d) =
    if_then (DeclaratorsFit (local_spelling d)) (StartFits (local_spelling d)) _ _
    (declaration_fits scopes d) (λ ds h. h)

-- the parts of its head
pub head_fits : (h : ForHeadTree) (start condition step : ℕ) → Fits (for_start_spelling h.start) start
    → Fits (perhaps expression_spelling h.condition) condition → Fits (perhaps expression_spelling h.step) step
    → Fits (for_head_spelling h) (start + condition + step)
unfolding for_head_spelling
head_fits h start condition step hs hc ht =
    let first = for_start_spelling h.start in
    let second = perhaps expression_spelling h.condition in
    let last = perhaps expression_spelling h.step in
    let all = start + condition + step in
    further all _ _ (further all _ _ (together (start + condition) step (first ++ second) _
    (together start condition first second hs hc) (further step _ _ (before step last _ ht))))
