-- The names that clauses list, and what is promised of a function that takes them.
use Rattle.std.specs.Prelude.{◌≡◌, List, OnOk, Option, Result, Vec, fold, map}
use Rattle.std.specs.List.{flat_map}
use Rattle.std.specs.declared.alloc.Global.{Global}
use Rattle.om_lexer.specs.declared.fault.SourceFault.{SourceFault}
use Rattle.om_lexer.specs.declared.token.Span.{Span}
use Rattle.om_pragma.specs.declared.clause.Clause.{Clause}
use Rattle.om_pragma.specs.declared.clause.ClauseItem.{ClauseItem}
use Rattle.om_pragma.specs.declared.clause.DataSharing.{DataSharing}
use Rattle.om_pragma.specs.declared.clause.Name as names
use Rattle.om_pragma.specs.declared.clause.NameList.{NameList}
use Rattle.om_pragma.specs.declared.tree.Directive.{Directive}
use Rattle.om_pragma.specs.Expressions.{map_clause, map_item}
use Rattle.om_parser_tree.specs.declared.tree.Expression.{Expression}
use Rattle.om_parser_tree.specs.Tree.{ExpressionTree}
use Rattle.om_parser_tree.specs.View.{view_expression}
use Rattle.om_scope_tree.specs.declared.resolved.ResolvedClause.{ResolvedClause}
use Rattle.om_scope_tree.specs.declared.resolved.Variable.{Variable}
use Rattle.om_scope_tree.specs.ResolvedTree.{ResolvedClauseTree}
use Rattle.om_scope_tree.specs.ResolvedView as view
use Rattle.om_scope_rules.specs.declared.region.Flow.{Flow}
use Rattle.om_scope_rules.specs.Checks.{Checks, ChecksExactly}
use Rattle.om_scope_rules.specs.DirectiveRules.{Listed, after_item, after_name, after_names, clause_breaches}
use Rattle.om_scope_rules.specs.DirectiveRules.{directive_breaches, flushed_breaches, item_breaches, list_breaches}
use Rattle.om_scope_rules.specs.DirectiveRules.{listed_breaches, names_breaches, names_in, nothing_listed, sharing_of}
use Rattle.om_scope_rules.specs.Faults.{breaches_along}
use Rattle.om_scope_rules.specs.Perhaps.{each}
use Rattle.om_scope_rules.specs.Resolution.{variable_named}
use Rattle.om_scope_rules.specs.Resolves.{Adds, Resolves}
use Rattle.om_scope_rules.specs.Scopes.{Scopes}
use Rattle.om_scope_rules.specs.StatementResolution.{flushed, resolved_clause, resolved_clauses, resolved_listed}
use Rattle.om_scope_parts.specs.declared.directive.Listing as listings

-- ---- trees

-- a clause whose expression is a tree
abbrev pub view_clause : Clause Expression → Clause ExpressionTree
view_clause = map_clause view_expression

-- the clauses of a directive
abbrev pub view_items : List (ClauseItem Expression) → List (ClauseItem ExpressionTree)
view_items items = map (map_item view_expression) items

-- the resolved clauses, beside what they say of variables
abbrev pub view_taken : Listed × Vec ResolvedClause Global → List ResolvedClauseTree
view_taken taken = map view.clause taken.1.items

-- what clauses list, beside one another
abbrev pub listed_in : List (ClauseItem ExpressionTree) → Listed
listed_in items = fold after_item nothing_listed items

-- ---- what is promised where a clause lists names in such a way

-- the first breach of a name is refused, where others are listed; this check takes no memory
abbrev pub ChecksListed : {T : Type 0} → Result T SourceFault → Scopes → DataSharing → Listed → names.Name → Type 0
ChecksListed result scopes sharing listed name = ChecksExactly result (listed_breaches scopes sharing listed name)

-- a name is refused, or what the clause says of it is found
abbrev pub ResolvesListed : Result ResolvedClause SourceFault → listings.Listing → Listed → names.Name → Type 0
ResolvesListed result listing old name =
    let scopes = listing.symbols.now in
    Resolves view.clause result (listed_breaches scopes (sharing_of listing.kind) old name)
    (resolved_listed listing.kind scopes name)

-- a name is listed behind those before it, unless it is refused
abbrev pub ListsName : {T : Type 0} → Result T SourceFault → listings.Listing → Listed → Listed → names.Name → Type 0
ListsName result listing old new name = OnOk result (new ≡ after_name (sharing_of listing.kind) old name)

-- the first breach of the names is refused
abbrev pub ChecksNames : {T : Type 0} → Result T SourceFault → listings.Listing → Listed → List names.Name → Type 0
ChecksNames result listing old ns = Checks result
    (names_breaches listing.symbols.now (sharing_of listing.kind) old ns)

-- what the clause says of each of these names
abbrev pub listed_clauses : listings.Listing → List names.Name → Option (List ResolvedClauseTree)
listed_clauses listing = each (resolved_listed listing.kind listing.symbols.now)

-- all the names of a list are listed behind those before them, unless one is refused
abbrev pub ListsAll : {T : Type 0} → Result T SourceFault → listings.Listing → Listed → Listed → names.Name
    → List (Span × names.Name) → Type 0
ListsAll result listing old new first rest =
    OnOk result (new ≡ after_names (sharing_of listing.kind) old (names_in first rest))

-- what the clause says of all the names of a list stands behind what was there, unless one is refused
abbrev pub AddsAll : {T : Type 0} → Result T SourceFault → listings.Listing → Vec ResolvedClause Global
    → Vec ResolvedClause Global → names.Name → List (Span × names.Name) → Type 0
AddsAll result listing old new first rest =
    Adds view.clause result old new (listed_clauses listing (names_in first rest))

-- ---- what is promised of clauses and directives

-- the first breach of a clause is refused, where names are listed before it
abbrev pub ChecksClause : {T : Type 0} → Result T SourceFault → Scopes → Listed → Clause Expression → Type 0
ChecksClause result scopes listed clause = Checks result (clause_breaches scopes listed (view_clause clause))

-- what it says stands behind what was there, unless it is refused
abbrev pub AddsClause : {T : Type 0} → Result T SourceFault → Scopes → Vec ResolvedClause Global
    → Vec ResolvedClause Global → Clause Expression → Type 0
AddsClause result scopes old new clause = Adds view.clause result old new (resolved_clause scopes (view_clause clause))

-- one of the clauses is refused, or all are resolved
abbrev pub ResolvesClauses : Result (Listed × Vec ResolvedClause Global) SourceFault → Scopes
    → List (ClauseItem ExpressionTree) → Type 0
ResolvesClauses result scopes items = Resolves view_taken result
    (breaches_along (item_breaches scopes) after_item nothing_listed items) (resolved_clauses scopes items)

-- a directive is refused where it stands, or its clauses are resolved; what they list is answered beside them
abbrev pub ResolvesDirective : Result (Listed × Vec ResolvedClause Global) SourceFault → Scopes → Flow
    → Directive ExpressionTree → Type 0
ResolvesDirective result scopes flow d = Resolves view_taken result (directive_breaches scopes flow d)
    (resolved_clauses scopes d.clauses)

-- ---- what is promised of the list of a `flush`

-- one of the names is refused, or the variables of all are found
abbrev pub ResolvesFlushed : Result (List Variable) SourceFault → Scopes → List names.Name → Type 0
ResolvesFlushed result scopes ns = Resolves (λ found. found) result (flat_map (flushed_breaches scopes) ns)
    (each (variable_named scopes) ns)

-- the same of a list that may be left out
abbrev pub ResolvesFlush : Result (List Variable) SourceFault → Scopes → Option NameList → Type 0
ResolvesFlush result scopes list = Resolves (λ found. found) result (list_breaches scopes list) (flushed scopes list)
