-- The places of declarations and parameters are among their tokens.
use Rattle.std.proofs.Common.{List, [], ◌∷◌, ◌++◌, map}
use Rattle.std.specs.List.{flat_map}
use Rattle.std.specs.Prelude.{IfSome}
use Rattle.om_lexer.specs.declared.token.Span.{Span}
use Rattle.om_lexer.specs.declared.token.Token.{Token}
use Rattle.om_scope_rules.proofs.Among.{none, further, before, together, named}
use Rattle.om_scope_rules.specs.TreePlaces.{AreAmong}
use Rattle.om_scope_rules.proofs.Steps.{if_then}
use Rattle.om_scope_rules.proofs.StepsFrom.{if_behind, if_weaker}
use Rattle.om_scope_rules.specs.TreePlaces.{Declared, declarator_place, start_places}
use Rattle.om_pragma.specs.declared.clause.Name as names
use Rattle.om_scope_tree.specs.ResolvedTree.{ResolvedDeclaratorTree, ResolvedStartTree}
use Rattle.om_scope_rules.specs.Resolution.{resolved_expression}
use Rattle.om_scope_rules.specs.Scopes.{Scopes, after_local, behind_commas, declarators_of, parameters_of}
use Rattle.om_scope_rules.specs.StatementResolution.{local_of, resolved_declarator, resolved_declarators}
use Rattle.om_scope_rules.specs.StatementResolution.{resolved_initial, resolved_start}
use Rattle.om_scope_rules.specs.UnitResolution.{parameter_variable}
use Rattle.om_parser_tree.specs.declared.tree.Parameter.{Parameter}
use Rattle.om_parser_tree.specs.Spelling.{behind_comma, declaration_spelling, declarator_spelling, expression_spelling}
use Rattle.om_parser_tree.specs.Spelling.{for_head_spelling, for_start_spelling, further_spelling, given_name, local_spelling}
use Rattle.om_parser_tree.specs.Spelling.{parameter_spelling, parameters_spelling, perhaps}
use Rattle.om_parser_tree.specs.Tree.{ExpressionTree, DeclaratorTree, DeclarationTree, ForStartTree, Nothing}
use Rattle.om_parser_tree.specs.Tree.{StartExpression, StartDeclaration, ForHeadTree, ParametersTree, NoParameters, Void}
use Rattle.om_parser_tree.specs.Tree.{Listed}

-- ---- declarations

-- the place of a declarator, and those of several, are among these tokens
abbrev DeclaratorAmong : List Token → ResolvedDeclaratorTree → Type 0
DeclaratorAmong ts d = AreAmong (Declared d.variable ∷ []) ts

abbrev pub DeclaratorsAmong : List Token → List ResolvedDeclaratorTree → Type 0
DeclaratorsAmong ts ds = AreAmong (map declarator_place ds) ts

-- the tokens of a declarator of a block or a `for`, and of one behind its comma
abbrev own_tokens : DeclaratorTree ExpressionTree → List Token
own_tokens = declarator_spelling expression_spelling

abbrev further_tokens : Span × DeclaratorTree ExpressionTree → List Token
further_tokens = further_spelling expression_spelling

declarator_among : (scopes : Scopes) (d : DeclaratorTree ExpressionTree)
    → IfSome (resolved_declarator scopes d) (DeclaratorAmong (own_tokens d))
unfolding resolved_declarator declarator_spelling
declarator_among scopes d =
    if_behind (DeclaratorAmong (own_tokens d)) (resolved_initial (after_local scopes d) d.initializer) _
    (λ initial. named d.name [] _ (none _))

further_among : (rest : List (Span × DeclaratorTree ExpressionTree)) (scopes : Scopes)
    → IfSome (resolved_declarators scopes (behind_commas rest)) (DeclaratorsAmong (flat_map further_tokens rest))
unfolding further_spelling
further_among [] scopes = none []
further_among (d ∷ rest) scopes =
    let own = own_tokens d.1 in
    let tail = flat_map further_tokens rest in
    let all = flat_map further_tokens (d ∷ rest) in
    if_then (DeclaratorAmong own) (DeclaratorsAmong all) _ _ (declarator_among scopes d.1) (λ x hx.
    if_then (DeclaratorsAmong tail) (DeclaratorsAmong all) _ _ (further_among rest (after_local scopes d.1)) (λ xs hxs.
    further (map declarator_place (x ∷ xs)) _ _
    (together (Declared x.variable ∷ []) (map declarator_place xs) own tail hx hxs)))

pub declaration_among : (scopes : Scopes) (d : DeclarationTree ExpressionTree)
    → IfSome (resolved_declarators scopes (declarators_of d)) (DeclaratorsAmong (local_spelling d))
unfolding declaration_spelling
declaration_among scopes d =
    let own = own_tokens d.first in
    let tail = flat_map further_tokens d.rest in
    let all = local_spelling d in
    if_then (DeclaratorAmong own) (DeclaratorsAmong all) _ _ (declarator_among scopes d.first) (λ x hx.
    if_then (DeclaratorsAmong tail) (DeclaratorsAmong all) _ _ (further_among d.rest (after_local scopes d.first))
    (λ xs hxs.
    let places = map declarator_place (x ∷ xs) in
    further places _ _ (before places (own ++ tail) _
    (together (Declared x.variable ∷ []) (map declarator_place xs) own tail hx hxs))))

-- ---- what a `for` begins with

abbrev pub StartAmong : List Token → ResolvedStartTree → Type 0
StartAmong ts start = AreAmong (start_places start) ts

start_among : (scopes : Scopes) (start : ForStartTree)
    → IfSome (resolved_start scopes start) (StartAmong (for_start_spelling start))
unfolding resolved_start for_start_spelling
start_among scopes (Nothing semicolon) = none _
start_among scopes (StartExpression e semicolon) =
    if_behind (StartAmong (for_start_spelling (StartExpression e semicolon))) (resolved_expression scopes e) _
    (λ x. none _)
start_among scopes (StartDeclaration d) =
    if_then (DeclaratorsAmong (local_spelling d)) (StartAmong (local_spelling d)) _ _
    (declaration_among scopes d) (λ ds h. h)

pub for_start_among : (scopes : Scopes) (h : ForHeadTree)
    → IfSome (resolved_start scopes h.start) (StartAmong (for_head_spelling h))
unfolding for_head_spelling
for_start_among scopes h =
    let own = for_start_spelling h.start in
    let upto = own ++ perhaps expression_spelling h.condition in
    if_weaker (StartAmong own) (StartAmong (for_head_spelling h)) _ (start_among scopes h.start) (λ start among.
    let places = start_places start in
    further places _ _ (further places _ _ (before places upto _ (before places own _ among))))

-- ---- parameters (C17 6.7.6.3)

abbrev further_parameter : Span × Parameter names.Name → List Token
further_parameter = behind_comma (parameter_spelling given_name)

further_parameters : (rest : List (Span × Parameter names.Name))
    → AreAmong (map Declared (map parameter_variable (map (λ next. next.1) rest))) (flat_map further_parameter rest)
further_parameters [] = none []
further_parameters (p ∷ rest) =
    let tail = map Declared (map parameter_variable (map (λ next. next.1) rest)) in
    let places = Declared (local_of p.1.name) ∷ tail in
    further places _ _ (further places _ _
    (named p.1.name tail (flat_map further_parameter rest) (further_parameters rest)))

pub parameters_among : (parameters : ParametersTree names.Name)
    → AreAmong (map Declared (map parameter_variable (parameters_of parameters)))
    (parameters_spelling given_name parameters)
unfolding parameters_spelling
parameters_among NoParameters = none []
parameters_among (Void at) = none _
parameters_among (Listed first rest) =
    let tail = map Declared (map parameter_variable (map (λ next. next.1) rest)) in
    further (Declared (local_of first.name) ∷ tail) _ _
    (named first.name tail (flat_map further_parameter rest) (further_parameters rest))
