-- The breaches of a directive stand at its tokens, in their order.
use Rattle.std.proofs.Common.{◌≡◌, Bool, true, false, List, [], ◌∷◌, ◌++◌, Option, None, Some, map, refl, sym, subst}
use Rattle.std.proofs.Common.{append-nil}
use Rattle.std.specs.List.{flat_map}
use Rattle.std.specs.Prelude.{◌&&◌, ◌||◌}
use Rattle.om_lexer.specs.declared.fault.FaultCode.TheVariants as faults
use Rattle.om_lexer.specs.declared.fault.SourceFault.{SourceFault}
use Rattle.om_lexer.specs.declared.token.Span.{Span}
use Rattle.om_lexer.specs.declared.token.Token.{Token}
use Rattle.om_lexer.specs.declared.token.TokenKind.{TokenKind}
use Rattle.om_lexer.specs.declared.token.TokenKind.TheVariants as kinds
use Rattle.om_pragma.specs.declared.clause.Clause.{Clause}
use Rattle.om_pragma.specs.declared.clause.Clause.TheVariants as clauses
use Rattle.om_pragma.specs.declared.clause.ClauseItem.{ClauseItem}
use Rattle.om_pragma.specs.declared.clause.DataSharing.{DataSharing}
use Rattle.om_pragma.specs.declared.clause.DataSharing.TheVariants as lists
use Rattle.om_pragma.specs.declared.clause.Name as names
use Rattle.om_pragma.specs.declared.clause.NameList.{NameList}
use Rattle.om_pragma.specs.declared.tree.Directive.{Directive}
use Rattle.om_pragma.specs.declared.tree.DirectiveName.{DirectiveName}
use Rattle.om_pragma.specs.declared.tree.DirectiveName.TheVariants as directives
use Rattle.om_pragma.specs.Questions.{word_span}
use Rattle.om_pragma.specs.Spelling.{argument_spelling, clause_spelling, comma_spelling}
use Rattle.om_pragma.specs.Spelling.{directive_spelling, flush_spelling, further_spelling, item_spelling, list_spelling}
use Rattle.om_pragma.specs.Spelling.{name_spelling, names_spelling, opening_spelling}
use Rattle.om_pragma.specs.Table.{IsDirective, IsItem, EachBehind, may_stand}
use Rattle.om_parser_tree.specs.Formed.{IsExpression, IsLine}
use Rattle.om_parser_tree.specs.Spelling.{expression_spelling, name, token}
use Rattle.om_parser_tree.specs.Tree.{ExpressionTree}
use Rattle.om_scope_rules.specs.declared.region.Flow.{Flow}
use Rattle.om_scope_rules.specs.DirectiveRules.{Listed, after_item, after_name, clause_breaches, directive_breaches}
use Rattle.om_scope_rules.specs.DirectiveRules.{flush_breaches, flushed_breaches, is_listed, is_mislisted}
use Rattle.om_scope_rules.specs.DirectiveRules.{item_breaches}
use Rattle.om_scope_rules.specs.DirectiveRules.{list_breaches, listed_breaches, names_breaches, names_in}
use Rattle.om_scope_rules.specs.DirectiveRules.{nesting_breaches}
use Rattle.om_scope_rules.specs.DirectiveRules.{nothing_listed, traits_of, uses_original}
use Rattle.om_scope_rules.specs.ExpressionRules.{is_undeclared}
use Rattle.om_scope_rules.specs.Faults.{breach_if, breaches_along}
use Rattle.om_scope_rules.specs.Scopes.{Scopes, meaning_of}
use Rattle.om_scope_rules.specs.Sharing.{is_unlisted}
use Rattle.om_scope_laws.proofs.ExpressionBreaches.{alone, expression_among, named, three}
use Rattle.om_scope_laws.proofs.TokenBreaches.{Among, IsWide, RiseAt, before, behind, first_alone, further, none}
use Rattle.om_scope_laws.proofs.TokenBreaches.{stands, together}

-- ---- names in lists

listed_rises : (scopes : Scopes) (sharing : DataSharing) (listed : Listed) (n : names.Name)
    → RiseAt n.span.start 0 (listed_breaches scopes sharing listed n)
listed_rises scopes sharing listed n =
    three n.span.start (is_undeclared scopes n.text (meaning_of scopes n.text))
    (is_mislisted sharing scopes n.text || is_listed listed n.text)
    (uses_original sharing && is_unlisted scopes n.text)

further_among : (scopes : Scopes) (sharing : DataSharing) (rest : List (Span × names.Name)) (listed : Listed)
    → Among (breaches_along (listed_breaches scopes sharing) (after_name sharing) listed (map (λ next. next.1) rest))
    (flat_map further_spelling rest)
unfolding further_spelling
further_among scopes sharing [] listed = none []
further_among scopes sharing (n ∷ rest) listed =
    further _ _ _ (named n.1 (listed_breaches scopes sharing listed n.1) _ (flat_map further_spelling rest)
    (listed_rises scopes sharing listed n.1) (further_among scopes sharing rest (after_name sharing listed n.1)))

names_among : (scopes : Scopes) (sharing : DataSharing) (listed : Listed) (first : names.Name)
    (rest : List (Span × names.Name)) (close : Span)
    → Among (names_breaches scopes sharing listed (names_in first rest)) (names_spelling first rest close)
unfolding names_spelling
names_among scopes sharing listed first rest close =
    named first (listed_breaches scopes sharing listed first) _ _ (listed_rises scopes sharing listed first)
    (before _ (flat_map further_spelling rest) _ (further_among scopes sharing rest (after_name sharing listed first)))

-- ---- clauses

clause_among : (scopes : Scopes) (listed : Listed) (c : Clause ExpressionTree)
    → Among (clause_breaches scopes listed c) (argument_spelling expression_spelling c)
unfolding clause_breaches argument_spelling list_spelling
clause_among scopes listed (clauses.Value kind s v) =
    further _ _ _ (before _ (expression_spelling v.expression) _ (expression_among v.expression scopes true))
clause_among scopes listed (clauses.Default s argument) = none _
clause_among scopes listed (clauses.Data sharing s l) =
    further _ _ _ (names_among scopes sharing listed l.first l.rest l.close_paren)
clause_among scopes listed (clauses.Reduction s r) =
    further _ _ _ (further _ _ _ (further _ _ _ (names_among scopes lists.Firstprivate listed r.first r.rest
    r.close_paren)))
clause_among scopes listed (clauses.Schedule s argument) = none _
clause_among scopes listed (clauses.Plain kind s) = none _

item_among : (scopes : Scopes) (listed : Listed) (item : ClauseItem ExpressionTree)
    → Among (item_breaches scopes listed item) (item_spelling expression_spelling item)
unfolding item_spelling clause_spelling
item_among scopes listed item =
    behind _ (comma_spelling item.comma) _ (further _ _ _ (clause_among scopes listed item.clause))

items_among : (scopes : Scopes) (items : List (ClauseItem ExpressionTree)) (listed : Listed)
    → Among (breaches_along (item_breaches scopes) after_item listed items)
    (flat_map (item_spelling expression_spelling) items)
items_among scopes [] listed = none []
items_among scopes (item ∷ items) listed =
    together (item_breaches scopes listed item) _ (item_spelling expression_spelling item) _
    (item_among scopes listed item) (items_among scopes items (after_item listed item))

-- ---- a directive

-- S14 at the word
word_stands : (broken : Bool) (kind : TokenKind) (s : Span) (ts : List Token) → IsWide kind
    → Among (breach_if broken faults.LeavesConstruct s.start) (token kind s ∷ ts)
word_stands broken kind s ts w =
    first_alone (breach_if broken faults.LeavesConstruct s.start) (token kind s) ts
    (stands (token kind s) (breach_if broken faults.LeavesConstruct s.start) w
    (alone broken faults.LeavesConstruct s.start))

word_at : (flow : Flow) (n : DirectiveName) (kind : TokenKind) (s : Span) (ts : List Token) → word_span n ≡ s
    → IsWide kind → Among (nesting_breaches flow n) (token kind s ∷ ts)
word_at flow n kind s ts e w =
    subst (λ z. Among (nesting_breaches flow n) (token kind z ∷ ts)) e
    (word_stands ((traits_of n).is_bound && flow.is_closed) kind (word_span n) ts w)

nesting_among : (flow : Flow) (n : DirectiveName) → Among (nesting_breaches flow n) (name_spelling n)
unfolding name_spelling
nesting_among flow (directives.Parallel s) = word_at flow (directives.Parallel s) _ s _ refl tt
nesting_among flow (directives.For s) = word_at flow (directives.For s) _ s _ refl tt
nesting_among flow (directives.Sections s) = word_at flow (directives.Sections s) _ s _ refl tt
nesting_among flow (directives.Section s) = word_at flow (directives.Section s) _ s _ refl tt
nesting_among flow (directives.Single s) = word_at flow (directives.Single s) _ s _ refl tt
nesting_among flow (directives.ParallelFor s t) = word_at flow (directives.ParallelFor s t) _ s _ refl tt
nesting_among flow (directives.ParallelSections s t) = word_at flow (directives.ParallelSections s t) _ s _ refl tt
nesting_among flow (directives.Masked s) = word_at flow (directives.Masked s) _ s _ refl tt
nesting_among flow (directives.Master s) = word_at flow (directives.Master s) _ s _ refl tt
nesting_among flow (directives.Critical s n) = word_at flow (directives.Critical s n) _ s _ refl tt
nesting_among flow (directives.Atomic s) = word_at flow (directives.Atomic s) _ s _ refl tt
nesting_among flow (directives.Task s) = word_at flow (directives.Task s) _ s _ refl tt
nesting_among flow (directives.Taskgroup s) = word_at flow (directives.Taskgroup s) _ s _ refl tt
nesting_among flow (directives.Barrier s) = word_at flow (directives.Barrier s) _ s _ refl tt
nesting_among flow (directives.Taskwait s) = word_at flow (directives.Taskwait s) _ s _ refl tt
nesting_among flow (directives.Taskyield s) = word_at flow (directives.Taskyield s) _ s _ refl tt
nesting_among flow (directives.Flush s l) = word_at flow (directives.Flush s l) _ s _ refl tt

-- what stands in its name and behind it stands in its line
line_among : (d : Directive ExpressionTree) (bs : List SourceFault)
    → Among bs (name_spelling d.name ++ (flat_map (item_spelling expression_spelling) d.clauses
    ++ token kinds.DirectiveEnd d.end ∷ []))
    → Among bs (directive_spelling expression_spelling d)
unfolding directive_spelling opening_spelling
line_among d bs h = further _ _ _ (further _ _ _ (further _ _ _ h))

pub directive_among : (scopes : Scopes) (flow : Flow) (d : Directive ExpressionTree)
    → Among (directive_breaches scopes flow d) (directive_spelling expression_spelling d)
directive_among scopes flow d =
    line_among d (directive_breaches scopes flow d)
    (together (nesting_breaches flow d.name) _ (name_spelling d.name) _ (nesting_among flow d.name)
    (before _ (flat_map (item_spelling expression_spelling) d.clauses) _ (items_among scopes d.clauses nothing_listed)))

-- ---- `flush`, which has no clauses

flushed_among : (scopes : Scopes) (rest : List (Span × names.Name))
    → Among (flat_map (flushed_breaches scopes) (map (λ next. next.1) rest)) (flat_map further_spelling rest)
unfolding further_spelling
flushed_among scopes [] = none []
flushed_among scopes (n ∷ rest) =
    further _ _ _ (named n.1 (flushed_breaches scopes n.1) _ (flat_map further_spelling rest)
    (listed_rises scopes lists.Shared nothing_listed n.1) (flushed_among scopes rest))

list_among : (scopes : Scopes) (list : Option NameList) → Among (list_breaches scopes list) (flush_spelling list)
unfolding flush_spelling list_spelling names_spelling
list_among scopes None = none []
list_among scopes (Some l) =
    further _ _ _ (named l.first (flushed_breaches scopes l.first) _ _
    (listed_rises scopes lists.Shared nothing_listed l.first)
    (before _ (flat_map further_spelling l.rest) _ (flushed_among scopes l.rest)))

no_clauses : (s : Span) (list : Option NameList) (items : List (ClauseItem ExpressionTree))
    → EachBehind (IsItem IsExpression (directives.Flush s list)) [] items → items ≡ []
unfolding EachBehind may_stand
no_clauses s list [] h = refl
no_clauses s list (i ∷ rest) h = absurd (let no : false ≡ true = h.0.can_stand in cc)

-- the tokens of a name, of clauses and of the end of a line
abbrev words_of : DirectiveName → List (ClauseItem ExpressionTree) → Span → List Token
words_of n items end = name_spelling n ++ (flat_map (item_spelling expression_spelling) items
    ++ token kinds.DirectiveEnd end ∷ [])

-- the breaches of a name and of clauses
abbrev own_breaches : Scopes → Flow → DirectiveName → List (ClauseItem ExpressionTree) → List SourceFault
own_breaches scopes flow n items = nesting_breaches flow n ++ breaches_along (item_breaches scopes) after_item
    nothing_listed items

own_among : (scopes : Scopes) (flow : Flow) (n : DirectiveName) (items : List (ClauseItem ExpressionTree)) (end : Span)
    → Among (own_breaches scopes flow n items) (words_of n items end)
own_among scopes flow n items end =
    together (nesting_breaches flow n) _ (name_spelling n) _ (nesting_among flow n)
    (before _ (flat_map (item_spelling expression_spelling) items) _ (items_among scopes items nothing_listed))

unflushed : (scopes : Scopes) (flow : Flow) (n : DirectiveName) (items : List (ClauseItem ExpressionTree)) (end : Span)
    → flush_breaches scopes n ≡ []
    → Among (own_breaches scopes flow n items ++ flush_breaches scopes n) (words_of n items end)
unflushed scopes flow n items end e =
    subst (λ z. Among (own_breaches scopes flow n items ++ z) (words_of n items end)) (sym e)
    (subst (λ z. Among z (words_of n items end)) (sym (append-nil (own_breaches scopes flow n items)))
    (own_among scopes flow n items end))

flushed : (scopes : Scopes) (flow : Flow) (s : Span) (list : Option NameList) (end : Span)
    → Among (own_breaches scopes flow (directives.Flush s list) [] ++ list_breaches scopes list)
    (words_of (directives.Flush s list) [] end)
unfolding name_spelling
flushed scopes flow s list end =
    further (list_breaches scopes list) _ _ (before (list_breaches scopes list) (flush_spelling list) _
    (list_among scopes list))

alone_among : (scopes : Scopes) (flow : Flow) (n : DirectiveName) (items : List (ClauseItem ExpressionTree))
    (end : Span) → EachBehind (IsItem IsExpression n) [] items
    → Among (own_breaches scopes flow n items ++ flush_breaches scopes n) (words_of n items end)
alone_among scopes flow (directives.Flush s list) items end h =
    subst (λ z. Among (own_breaches scopes flow (directives.Flush s list) z ++ list_breaches scopes list)
    (words_of (directives.Flush s list) z end)) (sym (no_clauses s list items h)) (flushed scopes flow s list end)
alone_among scopes flow (directives.Parallel s) items end h =
    unflushed scopes flow (directives.Parallel s) items end refl
alone_among scopes flow (directives.For s) items end h =
    unflushed scopes flow (directives.For s) items end refl
alone_among scopes flow (directives.Sections s) items end h =
    unflushed scopes flow (directives.Sections s) items end refl
alone_among scopes flow (directives.Section s) items end h =
    unflushed scopes flow (directives.Section s) items end refl
alone_among scopes flow (directives.Single s) items end h =
    unflushed scopes flow (directives.Single s) items end refl
alone_among scopes flow (directives.ParallelFor s t) items end h =
    unflushed scopes flow (directives.ParallelFor s t) items end refl
alone_among scopes flow (directives.ParallelSections s t) items end h =
    unflushed scopes flow (directives.ParallelSections s t) items end refl
alone_among scopes flow (directives.Masked s) items end h =
    unflushed scopes flow (directives.Masked s) items end refl
alone_among scopes flow (directives.Master s) items end h =
    unflushed scopes flow (directives.Master s) items end refl
alone_among scopes flow (directives.Critical s n) items end h =
    unflushed scopes flow (directives.Critical s n) items end refl
alone_among scopes flow (directives.Atomic s) items end h =
    unflushed scopes flow (directives.Atomic s) items end refl
alone_among scopes flow (directives.Task s) items end h =
    unflushed scopes flow (directives.Task s) items end refl
alone_among scopes flow (directives.Taskgroup s) items end h =
    unflushed scopes flow (directives.Taskgroup s) items end refl
alone_among scopes flow (directives.Barrier s) items end h =
    unflushed scopes flow (directives.Barrier s) items end refl
alone_among scopes flow (directives.Taskwait s) items end h =
    unflushed scopes flow (directives.Taskwait s) items end refl
alone_among scopes flow (directives.Taskyield s) items end h =
    unflushed scopes flow (directives.Taskyield s) items end refl

pub stand_alone_among : (scopes : Scopes) (flow : Flow) (d : Directive ExpressionTree) → IsLine d
    → Among (directive_breaches scopes flow d ++ flush_breaches scopes d.name)
    (directive_spelling expression_spelling d)
unfolding IsDirective
stand_alone_among scopes flow d h =
    line_among d (directive_breaches scopes flow d ++ flush_breaches scopes d.name)
    (alone_among scopes flow d.name d.clauses d.end h)
