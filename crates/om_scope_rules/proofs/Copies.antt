-- Resolving keeps the places of the names that clauses list.
use Rattle.std.proofs.Common.{ℕ, true, not, List, [], ◌∷◌, All, Option, None, Some}
use Rattle.std.specs.Prelude.{IfSome}
use Rattle.std.proofs.lemmas.List.Elements.{All-nil, All-cons, All-append, All-head, All-tail}
use Rattle.om_lexer.specs.declared.token.Span.{Span}
use Rattle.om_scope_rules.proofs.Steps.{if_either, if_then}
use Rattle.om_scope_rules.proofs.StepsFrom.{if_all_of, if_behind, if_each}
use Rattle.om_scope_rules.specs.Behind.{IsNameBehind, ItemNamesBehind, NamesBehind, NamesBehindIn, listed_names}
use Rattle.om_scope_rules.specs.Behind.{NamesBehindInParts}
use Rattle.om_scope_rules.specs.PlaceLaws.{CopiesStandBehind}
use Rattle.om_pragma.specs.declared.clause.Clause.{Clause}
use Rattle.om_pragma.specs.declared.clause.Clause.TheVariants as clauses
use Rattle.om_pragma.specs.declared.clause.ClauseItem.{ClauseItem}
use Rattle.om_pragma.specs.declared.clause.Name as names
use Rattle.om_pragma.specs.declared.tree.AtomicKind.{AtomicKind}
use Rattle.om_pragma.specs.declared.tree.AtomicKind.TheVariants as kinds
use Rattle.om_pragma.specs.declared.tree.Directive.{Directive}
use Rattle.om_pragma.specs.declared.tree.DirectiveName.{DirectiveName}
use Rattle.om_pragma.specs.declared.tree.DirectiveName.TheVariants as directives
use Rattle.om_pragma.specs.Questions.{atomic_kind}
use Rattle.om_scope_tree.specs.declared.resolved.CopyKind.{CopyKind}
use Rattle.om_scope_tree.specs.declared.resolved.CopyKind.TheVariants as copies
use Rattle.om_scope_tree.specs.declared.resolved.Side.{Side}
use Rattle.om_scope_tree.specs.Beside.{CopiesBehind, Everywhere, EverywhereIn, EverywhereInParts, IsCopyBehind}
use Rattle.om_scope_tree.specs.Beside.{TreeCopiesBehind}
use Rattle.om_scope_tree.specs.ResolvedTree as resolved
use Rattle.om_scope_tree.specs.ResolvedTree.{ResolvedClauseTree, ResolvedFunctionTree, ResolvedLoopTree}
use Rattle.om_scope_tree.specs.ResolvedTree.{ResolvedPartsTree, ResolvedStatementTree, ResolvedUpdateTree}
use Rattle.om_scope_rules.specs.DirectiveRules.{in_construct, names_in, parallel_in, traits_of}
use Rattle.om_scope_rules.specs.Loops.{Loop, loop_in}
use Rattle.om_scope_rules.specs.Perhaps.{all_along, each}
use Rattle.om_scope_rules.specs.Resolution.{resolved_expression, variable_named}
use Rattle.om_scope_rules.specs.Scopes.{Scopes, after_function, after_item, after_parameters, declarators_of, definitions_of}
use Rattle.om_scope_rules.specs.Scopes.{file_scope, inside, parameters_of}
use Rattle.om_scope_rules.specs.Sharing.{is_parallel}
use Rattle.om_scope_rules.specs.StatementResolution.{atomic_of, construct_of, flushed, has_nowait, kind_of, loop_construct_of}
use Rattle.om_scope_rules.specs.StatementResolution.{parallel_of, resolved_alone, resolved_clause, resolved_clauses}
use Rattle.om_scope_rules.specs.StatementResolution.{resolved_declarators, resolved_item, resolved_listed, resolved_loop}
use Rattle.om_scope_rules.specs.StatementResolution.{resolved_loop_construct, resolved_parts, resolved_perhaps}
use Rattle.om_scope_rules.specs.StatementResolution.{resolved_plain_construct, resolved_repeated, resolved_start}
use Rattle.om_scope_rules.specs.StatementResolution.{resolved_statement, resolved_statements, schedule_of}
use Rattle.om_scope_rules.specs.StatementResolution.{sections_construct_of, with_update}
use Rattle.om_scope_rules.specs.StatementRules.{after_for_start, after_statement, in_loop}
use Rattle.om_scope_rules.specs.StatementRules.{round_bounds}
use Rattle.om_scope_rules.specs.UnitResolution.{item_functions, resolution_of, resolved_function}
use Rattle.om_scope_rules.specs.Updates.{statement_side, update_of}
use Rattle.om_parser_tree.specs.Tree.{ExpressionTree, FunctionTree, ItemTree, Declaration, Prototype, Function, StatementTree}
use Rattle.om_parser_tree.specs.Tree.{LocalDeclaration, Block, Empty, Expression, If, IfElse, While, Do, For, Return, Break}
use Rattle.om_parser_tree.specs.Tree.{Continue, Construct, StandAlone, Sections, StatementsTree, NoStatements}
use Rattle.om_parser_tree.specs.Tree.{Statement, statements, PartsTree, NoParts, Part}

-- in a statement each region's copies stand behind its beginning
abbrev Good : ResolvedStatementTree → Type 0
Good = Everywhere CopiesBehind

abbrev AreGood : resolved.ResolvedStatementsTree → Type 0
AreGood = EverywhereIn CopiesBehind

abbrev AreGoodParts : ResolvedPartsTree → Type 0
AreGoodParts = EverywhereInParts CopiesBehind

-- ---- clauses

module _ (start : ℕ) where
  abbrev AreCopiesBehind : List ResolvedClauseTree → Type 0
  AreCopiesBehind = All (IsCopyBehind start)

  listed_behind : (kind : Option CopyKind) (scopes : Scopes) (name : names.Name) → IsNameBehind start name
      → IfSome (resolved_listed kind scopes name) (IsCopyBehind start)
  listed_behind None scopes name h = if_behind (IsCopyBehind start) (variable_named scopes name) _ (λ v. tt)
  listed_behind (Some kind) scopes name h = if_behind (IsCopyBehind start) (variable_named scopes name) _ (λ v. h)

  names_behind : (kind : Option CopyKind) (scopes : Scopes) (ns : List names.Name) → All (IsNameBehind start) ns
      → IfSome (each (resolved_listed kind scopes) ns) AreCopiesBehind
  names_behind kind scopes ns h =
      if_each (IsNameBehind start) (IsCopyBehind start) (resolved_listed kind scopes) (listed_behind kind scopes) ns h

  clause_behind : (scopes : Scopes) (c : Clause ExpressionTree) → All (IsNameBehind start) (listed_names c)
      → IfSome (resolved_clause scopes c) AreCopiesBehind
  unfolding resolved_clause
  clause_behind scopes (clauses.Value kind s v) h =
      if_behind AreCopiesBehind (resolved_expression scopes v.expression) _ (λ e.
      All-cons (IsCopyBehind start) (resolved.ClauseValue kind e) [] tt (All-nil (IsCopyBehind start)))
  clause_behind scopes (clauses.Default s argument) h = All-nil (IsCopyBehind start)
  clause_behind scopes (clauses.Data sharing s list) h =
      names_behind (kind_of sharing) scopes (names_in list.first list.rest) h
  clause_behind scopes (clauses.Reduction s r) h =
      names_behind (Some (copies.Reduction r.operator)) scopes (names_in r.first r.rest) h
  clause_behind scopes (clauses.Schedule s argument) h = All-nil (IsCopyBehind start)
  clause_behind scopes (clauses.Plain kind s) h = All-nil (IsCopyBehind start)

  clauses_behind : (scopes : Scopes) (items : List (ClauseItem ExpressionTree))
      → All (λ item. All (IsNameBehind start) (listed_names item.clause)) items
      → IfSome (resolved_clauses scopes items) AreCopiesBehind
  clauses_behind scopes items h =
      if_all_of (λ item. All (IsNameBehind start) (listed_names item.clause)) (IsCopyBehind start)
      (resolved_item scopes)
      (λ item own. clause_behind scopes item.clause own) items h

-- ---- constructs

update_good : (at : Span) (u : Option ResolvedUpdateTree) → IfSome (with_update at u) Good
update_good at None = tt
update_good at (Some u) = tt

atomic_good : (kind : AtomicKind) (side : Side) (at : Span) (cs : List ResolvedClauseTree)
    (body : ResolvedStatementTree) → Good body → IfSome (atomic_of kind side at cs body) Good
atomic_good kinds.Update side at cs body h = update_good at (update_of side body)
atomic_good kinds.Read side at cs body h = (tt, h)
atomic_good kinds.Write side at cs body h = (tt, h)

construct_good : (parallel : Option ℕ) (side : Side) (d : Directive ExpressionTree) (name : DirectiveName)
    (cs : List ResolvedClauseTree) (body : ResolvedStatementTree)
    → All (IsCopyBehind d.hash.start) cs → Good body → IfSome (construct_of parallel side d name cs body) Good
unfolding construct_of
construct_good parallel side d (directives.Parallel s) cs body hc h = (hc, h)
construct_good parallel side d (directives.Task s) cs body hc h = (hc, h)
construct_good parallel side d (directives.Atomic s) cs body hc h = atomic_good (atomic_kind d) side d.hash cs body h
construct_good parallel side d (directives.Taskgroup s) cs body hc h = (tt, h)
construct_good parallel side d (directives.Single s) cs body hc h = (tt, h)
construct_good parallel side d (directives.Masked s) cs body hc h = (tt, h)
construct_good parallel side d (directives.Master s) cs body hc h = (tt, h)
construct_good parallel side d (directives.Critical s name) cs body hc h = (tt, h)
construct_good parallel side d (directives.For s) cs body hc h = tt
construct_good parallel side d (directives.Sections s) cs body hc h = tt
construct_good parallel side d (directives.Section s) cs body hc h = tt
construct_good parallel side d (directives.ParallelFor s t) cs body hc h = tt
construct_good parallel side d (directives.ParallelSections s t) cs body hc h = tt
construct_good parallel side d (directives.Barrier s) cs body hc h = tt
construct_good parallel side d (directives.Taskwait s) cs body hc h = tt
construct_good parallel side d (directives.Taskyield s) cs body hc h = tt
construct_good parallel side d (directives.Flush s list) cs body hc h = tt

loop_good : (d : Directive ExpressionTree) (cs : List ResolvedClauseTree) (l : ResolvedLoopTree)
    (body : ResolvedStatementTree) → All (IsCopyBehind d.hash.start) cs → Good body
    → Good (loop_construct_of d cs l body)
loop_good d cs l body hc h =
    if_either Good (is_parallel (traits_of d.name).region) (parallel_of d cs (resolved.Loop d.hash [] true l body))
    (resolved.Loop d.hash cs (has_nowait d) l body) (hc, (tt, h)) (tt, h)

sections_good : (d : Directive ExpressionTree) (cs : List ResolvedClauseTree) (parts : ResolvedPartsTree)
    → All (IsCopyBehind d.hash.start) cs → AreGoodParts parts → Good (sections_construct_of d cs parts)
sections_good d cs parts hc h =
    if_either Good (is_parallel (traits_of d.name).region) (parallel_of d cs (resolved.Sections d.hash [] true parts))
    (resolved.Sections d.hash cs (has_nowait d) parts) (hc, (tt, h)) (tt, h)

alone_good : (scopes : Scopes) (d : Directive ExpressionTree) (name : DirectiveName)
    → IfSome (resolved_alone scopes d name) Good
alone_good scopes d (directives.Barrier s) = tt
alone_good scopes d (directives.Taskwait s) = tt
alone_good scopes d (directives.Taskyield s) = tt
alone_good scopes d (directives.Parallel s) = tt
alone_good scopes d (directives.For s) = tt
alone_good scopes d (directives.Sections s) = tt
alone_good scopes d (directives.Section s) = tt
alone_good scopes d (directives.Single s) = tt
alone_good scopes d (directives.ParallelFor s t) = tt
alone_good scopes d (directives.ParallelSections s t) = tt
alone_good scopes d (directives.Masked s) = tt
alone_good scopes d (directives.Master s) = tt
alone_good scopes d (directives.Critical s name) = tt
alone_good scopes d (directives.Atomic s) = tt
alone_good scopes d (directives.Task s) = tt
alone_good scopes d (directives.Taskgroup s) = tt
alone_good scopes d (directives.Flush s list) = if_behind Good (flushed scopes list) _ (λ vs. tt)

-- ---- statements

mutual
  unfolding resolved_statement resolved_statements resolved_repeated resolved_parts NamesBehind NamesBehindIn
      NamesBehindInParts

  statement_good : (scopes : Scopes) (parallel : Option ℕ) (s : StatementTree) → NamesBehind s
      → IfSome (resolved_statement scopes parallel s) Good
  statement_good scopes parallel (LocalDeclaration d) h =
      if_behind Good (resolved_declarators scopes (declarators_of d)) _ (λ ds. tt)
  statement_good scopes parallel (Block left items right) h =
      if_then AreGood Good _ _ (statements_good (inside scopes) parallel items h) (λ ss hs. (tt, hs))
  statement_good scopes parallel (Empty semicolon) h = tt
  statement_good scopes parallel (Expression e semicolon) h = if_behind Good (resolved_expression scopes e) _ (λ x. tt)
  statement_good scopes parallel (If at c s) h =
      if_behind Good (resolved_expression scopes c.value) _ (λ x.
      if_then Good Good _ _ (statement_good (inside scopes) parallel s h) (λ t ht. (tt, ht)))
  statement_good scopes parallel (IfElse at c s other u) h =
      if_behind Good (resolved_expression scopes c.value) _ (λ x.
      if_then Good Good _ _ (statement_good (inside scopes) parallel s h.0) (λ t ht.
      if_then Good Good _ _ (statement_good (inside scopes) parallel u h.1) (λ v hv. (tt, ht, hv))))
  statement_good scopes parallel (While at c s) h =
      if_behind Good (resolved_expression scopes c.value) _ (λ x.
      if_then Good Good _ _ (statement_good (inside scopes) parallel s h) (λ t ht. (tt, ht)))
  statement_good scopes parallel (Do at s again c semicolon) h =
      if_then Good Good _ _ (statement_good (inside scopes) parallel s h) (λ t ht.
      if_behind Good (resolved_expression scopes c.value) _ (λ x. (tt, ht)))
  statement_good scopes parallel (For head s) h =
      let behind = after_for_start (inside scopes) head.start in
      if_behind Good (resolved_start (inside scopes) head.start) _ (λ x.
      if_behind Good (resolved_perhaps behind head.condition) _ (λ y.
      if_behind Good (resolved_perhaps behind head.step) _ (λ z.
      if_then Good Good _ _ (statement_good (inside behind) parallel s h) (λ t ht. (tt, ht)))))
  statement_good scopes parallel (Return at value semicolon) h =
      if_behind Good (resolved_perhaps scopes value) _ (λ x. tt)
  statement_good scopes parallel (Break at semicolon) h = tt
  statement_good scopes parallel (Continue at semicolon) h = tt
  statement_good scopes parallel (Construct d s) h =
      if_either (λ found. IfSome found Good) (not (traits_of d.name).takes_loop)
      (resolved_plain_construct scopes parallel d s) (resolved_loop_construct scopes parallel d (loop_in s) s)
      (if_then (All (IsCopyBehind d.hash.start)) Good _ _ (clauses_behind d.hash.start scopes d.clauses h.0) (λ cs hc.
      if_then Good Good _ _ (statement_good (in_construct d scopes) (parallel_in d parallel) s h.1)
      (λ body hb. construct_good parallel (statement_side s) d d.name cs body hc hb)))
      (if_then (All (IsCopyBehind d.hash.start)) Good _ _ (clauses_behind d.hash.start scopes d.clauses h.0) (λ cs hc.
      if_behind Good (loop_in s) _ (λ found.
      if_behind Good (resolved_loop (round_bounds d scopes) (schedule_of d.clauses) found) _ (λ l.
      if_then Good Good _ _ (repeated_good (in_construct d scopes) (parallel_in d parallel) found s h.1)
      (λ body hb. loop_good d cs l body hc hb)))))
  statement_good scopes parallel (StandAlone d) h = alone_good scopes d d.name
  statement_good scopes parallel (Sections d left parts right) h =
      if_then (All (IsCopyBehind d.hash.start)) Good _ _ (clauses_behind d.hash.start scopes d.clauses h.0) (λ cs hc.
      if_then AreGoodParts Good _ _ (parts_good (in_construct d scopes) (parallel_in d parallel) parts h.1)
      (λ ps hp. sections_good d cs ps hc hp))

  statements_good : (scopes : Scopes) (parallel : Option ℕ) (ss : StatementsTree) → NamesBehindIn ss
      → IfSome (resolved_statements scopes parallel ss) AreGood
  statements_good scopes parallel NoStatements h = tt
  statements_good scopes parallel (Statement s rest) h =
      if_then Good AreGood _ _ (statement_good scopes parallel s h.0) (λ t ht.
      if_then AreGood AreGood _ _ (statements_good (after_statement scopes s) parallel rest h.1) (λ ts hts. (ht, hts)))

  repeated_good : (scopes : Scopes) (parallel : Option ℕ) (found : Loop) (s : StatementTree) → NamesBehind s
      → IfSome (resolved_repeated scopes parallel found s) Good
  repeated_good scopes parallel found (For head s) h = statement_good (in_loop scopes (Some found)) parallel s h
  repeated_good scopes parallel found (LocalDeclaration d) h = tt
  repeated_good scopes parallel found (Block left items right) h = tt
  repeated_good scopes parallel found (Empty semicolon) h = tt
  repeated_good scopes parallel found (Expression e semicolon) h = tt
  repeated_good scopes parallel found (If at c s) h = tt
  repeated_good scopes parallel found (IfElse at c s other t) h = tt
  repeated_good scopes parallel found (While at c s) h = tt
  repeated_good scopes parallel found (Do at s again c semicolon) h = tt
  repeated_good scopes parallel found (Return at value semicolon) h = tt
  repeated_good scopes parallel found (Break at semicolon) h = tt
  repeated_good scopes parallel found (Continue at semicolon) h = tt
  repeated_good scopes parallel found (Construct d s) h = tt
  repeated_good scopes parallel found (StandAlone d) h = tt
  repeated_good scopes parallel found (Sections d left parts right) h = tt

  parts_good : (scopes : Scopes) (parallel : Option ℕ) (parts : PartsTree) → NamesBehindInParts parts
      → IfSome (resolved_parts scopes parallel parts) AreGoodParts
  parts_good scopes parallel NoParts h = tt
  parts_good scopes parallel (Part section items rest) h =
      if_then AreGood AreGoodParts _ _ (statements_good (inside scopes) parallel items h.1) (λ ss hs.
      if_then AreGoodParts AreGoodParts _ _ (parts_good scopes parallel rest h.2) (λ ps hp. (hs, hp)))

-- ---- functions

abbrev IsGoodFunction : ResolvedFunctionTree → Type 0
IsGoodFunction function = AreGood function.body

function_good : (scopes : Scopes) (f : FunctionTree) → NamesBehindIn (statements f.body.items)
    → IfSome (resolved_function scopes f) IsGoodFunction
unfolding resolved_function
function_good scopes f h =
    let behind = after_function scopes f.head in
    let scopes = after_parameters (inside behind) (parameters_of f.head.parameters) in
    if_then AreGood IsGoodFunction _ _ (statements_good scopes None (statements f.body.items) h) (λ body hb. hb)

item_functions_good : (scopes : Scopes) (item : ItemTree) → ItemNamesBehind item
    → IfSome (item_functions scopes item) (All IsGoodFunction)
unfolding item_functions
item_functions_good scopes (Declaration d) h = All-nil IsGoodFunction
item_functions_good scopes (Prototype head semicolon) h = All-nil IsGoodFunction
item_functions_good scopes (Function f) h =
    if_then IsGoodFunction (All IsGoodFunction) _ _ (function_good scopes f h) (λ x hx.
    All-cons IsGoodFunction x [] hx (All-nil IsGoodFunction))

items_good : (items : List ItemTree) (scopes : Scopes) → All ItemNamesBehind items
    → IfSome (all_along item_functions after_item scopes items) (All IsGoodFunction)
items_good [] scopes h = All-nil IsGoodFunction
items_good (item ∷ items) scopes h =
    let first = All-head ItemNamesBehind item items h in
    let rest = All-tail ItemNamesBehind item items h in
    if_then (All IsGoodFunction) (All IsGoodFunction) _ _ (item_functions_good scopes item first) (λ xs hxs.
    if_then (All IsGoodFunction) (All IsGoodFunction) _ _ (items_good items (after_item scopes item) rest) (λ ys hys.
    All-append IsGoodFunction xs ys hxs hys))

pub copies_stand_behind : CopiesStandBehind
unfolding resolution_of
copies_stand_behind unit h =
    let scopes = file_scope (definitions_of unit.items) in
    if_then (All IsGoodFunction) TreeCopiesBehind _ _ (items_good unit.items scopes h) (λ functions hf. hf)
