-- The copies that the clauses of a directive ask for are among its tokens.
use Rattle.std.proofs.Common.{List, codes, [], ◌∷◌, ◌++◌, Option, None, Some, map, sym, subst}
use Rattle.std.specs.List.{flat_map}
use Rattle.std.specs.Prelude.{IfSome}
use Rattle.std.proofs.lemmas.Grind.{flat_map-append}
use Rattle.om_lexer.specs.declared.token.Span.{Span}
use Rattle.om_lexer.specs.declared.token.Token.{Token}
use Rattle.om_lexer.specs.declared.token.TokenKind.TheVariants as kinds
use Rattle.om_scope_rules.proofs.Among.{none, further, behind, before, together, named}
use Rattle.om_scope_rules.specs.TreePlaces.{AreAmong}
use Rattle.om_scope_rules.proofs.Steps.{if_then}
use Rattle.om_scope_rules.proofs.StepsFrom.{if_behind, if_weaker}
use Rattle.om_scope_rules.specs.TreePlaces.{clause_places}
use Rattle.om_pragma.specs.declared.clause.Clause.{Clause}
use Rattle.om_pragma.specs.declared.clause.Clause.TheVariants as clauses
use Rattle.om_pragma.specs.declared.clause.ClauseItem.{ClauseItem}
use Rattle.om_pragma.specs.declared.clause.Name as names
use Rattle.om_pragma.specs.declared.tree.Directive.{Directive}
use Rattle.om_pragma.specs.Spelling.{argument_spelling, clause_spelling, comma_spelling, directive_spelling}
use Rattle.om_pragma.specs.Spelling.{further_spelling, item_spelling, list_spelling, name_spelling, names_spelling}
use Rattle.om_scope_tree.specs.declared.resolved.CopyKind.{CopyKind}
use Rattle.om_scope_tree.specs.declared.resolved.CopyKind.TheVariants as copies
use Rattle.om_scope_tree.specs.ResolvedTree.{ResolvedClauseTree}
use Rattle.om_scope_rules.specs.DirectiveRules.{names_in}
use Rattle.om_scope_rules.specs.Perhaps.{each}
use Rattle.om_scope_rules.specs.Resolution.{resolved_expression, variable_named}
use Rattle.om_scope_rules.specs.Scopes.{Scopes}
use Rattle.om_scope_rules.specs.StatementResolution.{kind_of, resolved_clause, resolved_clauses, resolved_item}
use Rattle.om_scope_rules.specs.StatementResolution.{resolved_listed}
use Rattle.om_parser_tree.specs.Spelling.{expression_spelling, name, token}
use Rattle.om_parser_tree.specs.Tree.{ExpressionTree}

-- the copies of a clause, and of several, are among these tokens
abbrev CopyAmong : List Token → ResolvedClauseTree → Type 0
CopyAmong ts c = AreAmong (clause_places c) ts

abbrev pub CopiesAmong : List Token → List ResolvedClauseTree → Type 0
CopiesAmong ts cs = AreAmong (flat_map clause_places cs) ts

-- the tokens of a line, and those behind its beginning
abbrev pub line : Directive ExpressionTree → List Token
line = directive_spelling expression_spelling

abbrev pub behind_hash : Directive ExpressionTree → List Token
behind_hash d = token (kinds.Name (codes "pragma")) d.pragma ∷ token (kinds.Name (codes "omp")) d.omp
    ∷ (name_spelling d.name ++ (flat_map (item_spelling expression_spelling) d.clauses
    ++ token kinds.DirectiveEnd d.end ∷ []))

module _ (scopes : Scopes) where
  listed_among : (kind : Option CopyKind) (n : names.Name)
      → IfSome (resolved_listed kind scopes n) (CopyAmong (name n ∷ []))
  listed_among None n = if_behind (CopyAmong (name n ∷ [])) (variable_named scopes n) _ (λ v. none (name n ∷ []))
  listed_among (Some kind) n =
      if_behind (CopyAmong (name n ∷ [])) (variable_named scopes n) _ (λ v. named n [] [] (none []))

  further_among : (kind : Option CopyKind) (rest : List (Span × names.Name))
      → IfSome (each (resolved_listed kind scopes) (map (λ next. next.1) rest))
      (CopiesAmong (flat_map further_spelling rest))
  unfolding further_spelling
  further_among kind [] = none []
  further_among kind (n ∷ rest) =
      let tail = flat_map further_spelling rest in
      let all = flat_map further_spelling (n ∷ rest) in
      if_then (CopyAmong (name n.1 ∷ [])) (CopiesAmong all) _ _ (listed_among kind n.1) (λ c hc.
      if_then (CopiesAmong tail) (CopiesAmong all) _ _ (further_among kind rest) (λ cs hcs.
      further (flat_map clause_places (c ∷ cs)) _ _
      (together (clause_places c) (flat_map clause_places cs) (name n.1 ∷ []) tail hc hcs)))

  names_among : (kind : Option CopyKind) (first : names.Name) (rest : List (Span × names.Name)) (close : Span)
      → IfSome (each (resolved_listed kind scopes) (names_in first rest))
      (CopiesAmong (names_spelling first rest close))
  unfolding names_spelling
  names_among kind first rest close =
      let tail = flat_map further_spelling rest in
      let all = names_spelling first rest close in
      if_then (CopyAmong (name first ∷ [])) (CopiesAmong all) _ _ (listed_among kind first) (λ c hc.
      if_then (CopiesAmong tail) (CopiesAmong all) _ _ (further_among kind rest) (λ cs hcs.
      let copies = flat_map clause_places cs in
      together (clause_places c) copies (name first ∷ []) _ hc (before copies tail _ hcs)))

  -- further tokens before them
  shifted : (kind : Option CopyKind) (front : List Token) (first : names.Name) (rest : List (Span × names.Name))
      (close : Span) → IfSome (each (resolved_listed kind scopes) (names_in first rest))
      (CopiesAmong (front ++ names_spelling first rest close))
  shifted kind front first rest close =
      let ts = names_spelling first rest close in
      if_weaker (CopiesAmong ts) (CopiesAmong (front ++ ts)) _ (names_among kind first rest close) (λ cs h.
      behind (flat_map clause_places cs) front ts h)

  clause_among : (c : Clause ExpressionTree)
      → IfSome (resolved_clause scopes c) (CopiesAmong (argument_spelling expression_spelling c))
  unfolding resolved_clause argument_spelling list_spelling
  clause_among (clauses.Value kind s v) =
      if_behind (CopiesAmong (argument_spelling expression_spelling (clauses.Value kind s v)))
      (resolved_expression scopes v.expression) _ (λ e. none _)
  clause_among (clauses.Default s argument) = none _
  clause_among (clauses.Data sharing s l) = shifted (kind_of sharing) (_ ∷ []) l.first l.rest l.close_paren
  clause_among (clauses.Reduction s r) =
      shifted (Some (copies.Reduction r.operator)) (_ ∷ _ ∷ _ ∷ []) r.first r.rest r.close_paren
  clause_among (clauses.Schedule s argument) = none _
  clause_among (clauses.Plain kind s) = none _

  item_among : (item : ClauseItem ExpressionTree)
      → IfSome (resolved_item scopes item) (CopiesAmong (item_spelling expression_spelling item))
  unfolding item_spelling clause_spelling
  item_among item =
      let ts = argument_spelling expression_spelling item.clause in
      if_weaker (CopiesAmong ts) (CopiesAmong (item_spelling expression_spelling item)) _ (clause_among item.clause)
      (λ cs h.
      let copies = flat_map clause_places cs in
      behind copies (comma_spelling item.comma) _ (further copies _ ts h))

  items_among : (items : List (ClauseItem ExpressionTree))
      → IfSome (resolved_clauses scopes items) (CopiesAmong (flat_map (item_spelling expression_spelling) items))
  items_among [] = none []
  items_among (item ∷ items) =
      let own = item_spelling expression_spelling item in
      let tail = flat_map (item_spelling expression_spelling) items in
      if_then (CopiesAmong own) (CopiesAmong (own ++ tail)) _ _ (item_among item) (λ cs hcs.
      if_then (CopiesAmong tail) (CopiesAmong (own ++ tail)) _ _ (items_among items) (λ ds hds.
      subst (λ ps. AreAmong ps (own ++ tail)) (sym (flat_map-append clause_places cs ds))
      (together (flat_map clause_places cs) (flat_map clause_places ds) own tail hcs hds)))

  pub directive_among : (d : Directive ExpressionTree)
      → IfSome (resolved_clauses scopes d.clauses) (CopiesAmong (behind_hash d))
  directive_among d =
      let ts = flat_map (item_spelling expression_spelling) d.clauses in
      if_weaker (CopiesAmong ts) (CopiesAmong (behind_hash d)) _ (items_among d.clauses) (λ cs h.
      let copies = flat_map clause_places cs in
      further copies _ _ (further copies _ _ (behind copies (name_spelling d.name) _ (before copies ts _ h))))
