-- A directive has two tokens more than it needs for the `printf`s in its clauses.
use Rattle.std.proofs.Common.{ℕ, ◌+◌, List, [], ◌∷◌, ◌++◌, Option, None, Some, map, sum}
use Rattle.std.specs.List.{flat_map}
use Rattle.std.specs.Prelude.{IfSome}
use Rattle.om_lexer.specs.declared.token.Token.{Token}
use Rattle.om_pragma.specs.declared.clause.Clause.{Clause}
use Rattle.om_pragma.specs.declared.clause.Clause.TheVariants as clauses
use Rattle.om_pragma.specs.declared.clause.ClauseItem.{ClauseItem}
use Rattle.om_pragma.specs.declared.clause.Name as names
use Rattle.om_pragma.specs.declared.tree.Directive.{Directive}
use Rattle.om_pragma.specs.Spelling.{argument_spelling, clause_spelling, comma_spelling, directive_spelling}
use Rattle.om_pragma.specs.Spelling.{item_spelling, name_spelling, opening_spelling}
use Rattle.om_scope_tree.specs.declared.resolved.CopyKind.{CopyKind}
use Rattle.om_scope_tree.specs.declared.resolved.CopyKind.TheVariants as copies
use Rattle.om_scope_tree.specs.ResolvedTree.{ResolvedClauseTree, ClauseValue}
use Rattle.om_scope_tree.specs.Weights.{clause_weight, expression_weight}
use Rattle.om_scope_rules.proofs.CopyPlaces.{line}
use Rattle.om_scope_rules.proofs.ExpressionWeights.{ExpressionFits, expression_fits}
use Rattle.om_scope_rules.proofs.Fitting.{Fits, nothing, further, counted, behind, before, together, with_all, with_first}
use Rattle.om_scope_rules.proofs.Fitting.{with_one}
use Rattle.om_scope_rules.proofs.Steps.{if_then}
use Rattle.om_scope_rules.proofs.StepsFrom.{if_behind, if_weaker}
use Rattle.om_scope_rules.specs.DirectiveRules.{names_in}
use Rattle.om_scope_rules.specs.Perhaps.{each}
use Rattle.om_scope_rules.specs.Resolution.{variable_named}
use Rattle.om_scope_rules.specs.Scopes.{Scopes}
use Rattle.om_scope_rules.specs.StatementResolution.{kind_of, resolved_clause, resolved_clauses, resolved_item}
use Rattle.om_scope_rules.specs.StatementResolution.{resolved_listed}
use Rattle.om_parser_tree.specs.Spelling.{expression_spelling}
use Rattle.om_parser_tree.specs.Tree.{ExpressionTree}

-- there are tokens enough for these clauses, and for those of a line with two more
abbrev clauses_weight : List ResolvedClauseTree → ℕ
clauses_weight cs = sum (map clause_weight cs)

abbrev ClausesFit : List Token → List ResolvedClauseTree → Type 0
ClausesFit ts cs = Fits ts (clauses_weight cs)

abbrev pub LineFits : Directive ExpressionTree → List ResolvedClauseTree → Type 0
LineFits d cs = Fits (line d) (1 + (1 + sum (map clause_weight cs)))

abbrev clause_tokens : ClauseItem ExpressionTree → List Token
clause_tokens = item_spelling expression_spelling

module _ (scopes : Scopes) where
  -- what is listed has no `printf`s
  listed_fits : (kind : Option CopyKind) (n : names.Name)
      → IfSome (resolved_listed kind scopes n) (λ c. Fits [] (clause_weight c))
  listed_fits None n = if_behind (λ c. Fits [] (clause_weight c)) (variable_named scopes n) _ (λ v. nothing [])
  listed_fits (Some kind) n = if_behind (λ c. Fits [] (clause_weight c)) (variable_named scopes n) _ (λ v. nothing [])

  names_fit : (kind : Option CopyKind) (ns : List names.Name)
      → IfSome (each (resolved_listed kind scopes) ns) (ClausesFit [])
  names_fit kind [] = nothing []
  names_fit kind (n ∷ ns) =
      if_then (λ c. Fits [] (clause_weight c)) (ClausesFit []) _ _ (listed_fits kind n) (λ c hc.
      if_then (ClausesFit []) (ClausesFit []) _ _ (names_fit kind ns) (λ cs hcs.
      with_first clause_weight [] c cs (together (clause_weight c) (clauses_weight cs) [] [] hc hcs)))

  -- among any tokens
  listed_fit : (kind : Option CopyKind) (ns : List names.Name) (ts : List Token)
      → IfSome (each (resolved_listed kind scopes) ns) (ClausesFit ts)
  listed_fit kind ns ts =
      if_weaker (ClausesFit []) (ClausesFit ts) _ (names_fit kind ns) (λ cs h. before (clauses_weight cs) [] ts h)

  clause_fits : (c : Clause ExpressionTree)
      → IfSome (resolved_clause scopes c) (ClausesFit (argument_spelling expression_spelling c))
  unfolding resolved_clause argument_spelling
  clause_fits (clauses.Value kind s v) =
      let own = expression_spelling v.expression in
      let ts = argument_spelling expression_spelling (clauses.Value kind s v) in
      if_then (ExpressionFits own) (ClausesFit ts) _ _ (expression_fits scopes v.expression) (λ e h.
      let n = expression_weight e in
      with_one clause_weight ts (ClauseValue kind e) (further n _ _ (before n own _ h)))
  clause_fits (clauses.Default s argument) = nothing _
  clause_fits (clauses.Data sharing s l) = listed_fit (kind_of sharing) (names_in l.first l.rest) _
  clause_fits (clauses.Reduction s r) =
      listed_fit (Some (copies.Reduction r.operator)) (names_in r.first r.rest) _
  clause_fits (clauses.Schedule s argument) = nothing _
  clause_fits (clauses.Plain kind s) = nothing _

  item_fits : (item : ClauseItem ExpressionTree)
      → IfSome (resolved_item scopes item) (ClausesFit (clause_tokens item))
  unfolding item_spelling clause_spelling
  item_fits item =
      let own = argument_spelling expression_spelling item.clause in
      if_weaker (ClausesFit own) (ClausesFit (clause_tokens item)) _ (clause_fits item.clause) (λ cs h.
      let n = clauses_weight cs in
      behind n (comma_spelling item.comma) _ (further n _ own h))

  items_fit : (items : List (ClauseItem ExpressionTree))
      → IfSome (resolved_clauses scopes items) (ClausesFit (flat_map clause_tokens items))
  items_fit [] = nothing []
  items_fit (item ∷ items) =
      let own = clause_tokens item in
      let tail = flat_map clause_tokens items in
      let all = own ++ tail in
      if_then (ClausesFit own) (ClausesFit all) _ _ (item_fits item) (λ cs hcs.
      if_then (ClausesFit tail) (ClausesFit all) _ _ (items_fit items) (λ ds hds.
      with_all clause_weight all cs ds
      (together (clauses_weight cs) (clauses_weight ds) own tail hcs hds)))

  pub directive_fits : (d : Directive ExpressionTree) → IfSome (resolved_clauses scopes d.clauses) (LineFits d)
  unfolding directive_spelling opening_spelling
  directive_fits d =
      let own = flat_map clause_tokens d.clauses in
      if_weaker (ClausesFit own) (LineFits d) _ (items_fit d.clauses) (λ cs h.
      let n = clauses_weight cs in
      counted (1 + n) _ _ (counted n _ _ (further n _ _ (behind n (name_spelling d.name) _ (before n own _ h)))))
