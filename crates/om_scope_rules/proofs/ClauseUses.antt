-- Resolved declarations, directives and loops use globals that there are.
use Rattle.std.proofs.Common.{ℕ, true, List, [], All, Option, None, Some}
use Rattle.std.specs.Prelude.{IfSome}
use Rattle.std.proofs.lemmas.List.Elements.{All-nil, All-cons}
use Rattle.om_pragma.specs.declared.clause.Clause.{Clause}
use Rattle.om_pragma.specs.declared.clause.Clause.TheVariants as clauses
use Rattle.om_pragma.specs.declared.clause.ClauseItem.{ClauseItem}
use Rattle.om_pragma.specs.declared.clause.Name as names
use Rattle.om_pragma.specs.declared.clause.NameList.{NameList}
use Rattle.om_pragma.specs.declared.tree.Directive.{Directive}
use Rattle.om_pragma.specs.declared.tree.DirectiveName.{DirectiveName}
use Rattle.om_pragma.specs.declared.tree.DirectiveName.TheVariants as directives
use Rattle.om_parser_tree.specs.Tree.{ExpressionTree, DeclaratorTree, ForStartTree, Nothing, StartExpression, StartDeclaration}
use Rattle.om_scope_tree.specs.declared.resolved.CopyKind.{CopyKind}
use Rattle.om_scope_tree.specs.declared.resolved.CopyKind.TheVariants as copies
use Rattle.om_scope_tree.specs.declared.resolved.ResolvedSchedule.{ResolvedSchedule}
use Rattle.om_scope_tree.specs.declared.resolved.Variable.{Variable}
use Rattle.om_scope_rules.specs.DirectiveRules.{names_in, traits_of}
use Rattle.om_scope_rules.specs.Loops.{Loop}
use Rattle.om_scope_rules.specs.Perhaps.{perhaps, each}
use Rattle.om_scope_rules.specs.Resolution.{resolved_expression, variable_named}
use Rattle.om_scope_tree.specs.ResolvedTree as resolved
use Rattle.om_scope_tree.specs.ResolvedTree.{ResolvedExpressionTree, ResolvedClauseTree, ResolvedLoopTree}
use Rattle.om_scope_tree.specs.ResolvedTree.{ResolvedStatementTree, ResolvedStatementsTree, ResolvedPartsTree}
use Rattle.om_scope_rules.specs.Scopes.{Scopes, declarators_of, after_local}
use Rattle.om_scope_rules.specs.Sharing.{is_parallel}
use Rattle.om_scope_rules.specs.StatementResolution.{resolved_initial, resolved_declarator, resolved_declarators, clause_of}
use Rattle.om_scope_rules.specs.StatementResolution.{resolved_listed, kind_of, resolved_clause, resolved_clauses}
use Rattle.om_scope_rules.specs.StatementResolution.{resolved_item, has_nowait, parallel_of, construct_of, loop_construct_of}
use Rattle.om_scope_rules.specs.StatementResolution.{sections_construct_of, bounds_scopes, resolved_loop, resolved_start}
use Rattle.om_scope_rules.specs.StatementResolution.{resolved_perhaps, flushed, resolved_alone}
use Rattle.om_scope_tree.specs.Uses.{IsVariable, UsesVariables, PerhapsUsesVariables, DeclaratorsUseVariables}
use Rattle.om_scope_tree.specs.Uses.{StartUsesVariables, ClauseUsesVariables, ClausesUseVariables, StatementUsesVariables}
use Rattle.om_scope_tree.specs.Uses.{PartsUseVariables}
use Rattle.om_scope_rules.proofs.ExpressionUses.{expression_uses}
use Rattle.om_scope_rules.proofs.GlobalsBelow.{Below, named_below, below_after_local, below_found}
use Rattle.om_scope_rules.proofs.UpdateUses.{atomic_uses}
use Rattle.om_scope_tree.specs.declared.resolved.Side.{Side}
use Rattle.om_pragma.specs.Questions.{atomic_kind}
use Rattle.om_scope_rules.proofs.Steps.{if_then, if_either, if_each, if_all_of, if_each_along}

-- ---- declarations

perhaps_use : (n : ℕ) {A : Type 0} (f : A → Option ResolvedExpressionTree)
    → ((x : A) → IfSome (f x) (UsesVariables n)) → (o : Option A) → IfSome (perhaps f o) (PerhapsUsesVariables n)
perhaps_use n f one None = tt
perhaps_use n f one (Some x) = if_then (UsesVariables n) (PerhapsUsesVariables n) (f x) _ (one x) (λ y h. h)

pub perhaps_uses : (n : ℕ) (scopes : Scopes) (e : Option ExpressionTree) → Below n scopes
    → IfSome (resolved_perhaps scopes e) (PerhapsUsesVariables n)
perhaps_uses n scopes e h = perhaps_use n (resolved_expression scopes) (λ x. expression_uses n scopes x h) e

declarator_uses : (n : ℕ) (scopes : Scopes) (d : DeclaratorTree ExpressionTree) → Below n scopes
    → IfSome (resolved_declarator scopes d) (λ x. PerhapsUsesVariables n x.initial)
unfolding resolved_declarator
declarator_uses n scopes d h =
    if_then (PerhapsUsesVariables n) (λ x. PerhapsUsesVariables n x.initial)
    (resolved_initial (after_local scopes d) d.initializer) _
    (perhaps_use n (λ i. resolved_expression (after_local scopes d) i.value)
    (λ i. expression_uses n (after_local scopes d) i.value (below_after_local n scopes d h)) d.initializer)
    (λ x hx. hx)

pub declarators_use : (n : ℕ) (scopes : Scopes) (ds : List (DeclaratorTree ExpressionTree)) → Below n scopes
    → IfSome (resolved_declarators scopes ds) (DeclaratorsUseVariables n)
declarators_use n scopes ds h =
    if_each_along (Below n) (λ x. PerhapsUsesVariables n x.initial) after_local
    (λ state d g. below_after_local n state d g) resolved_declarator (λ state d g. declarator_uses n state d g)
    ds scopes h

pub start_uses : (n : ℕ) (scopes : Scopes) (start : ForStartTree) → Below n scopes
    → IfSome (resolved_start scopes start) (StartUsesVariables n)
unfolding resolved_start
start_uses n scopes (Nothing semicolon) h = tt
start_uses n scopes (StartExpression e semicolon) h = if_then (UsesVariables n) (StartUsesVariables n)
    (resolved_expression scopes e) _ (expression_uses n scopes e h) (λ x hx. hx)
start_uses n scopes (StartDeclaration d) h = if_then (DeclaratorsUseVariables n) (StartUsesVariables n)
    (resolved_declarators scopes (declarators_of d)) _ (declarators_use n scopes (declarators_of d) h) (λ ds hds. hds)

-- ---- clauses

clause_of_uses : (n : ℕ) (kind : Option CopyKind) (v : Variable) (name : names.Name) → IsVariable n v
    → ClauseUsesVariables n (clause_of kind v name)
clause_of_uses n None v name h = h
clause_of_uses n (Some kind) v name h = h

listed_uses : (n : ℕ) (kind : Option CopyKind) (scopes : Scopes) (name : names.Name) → Below n scopes
    → IfSome (resolved_listed kind scopes name) (ClauseUsesVariables n)
listed_uses n kind scopes name h = if_then (IsVariable n) (ClauseUsesVariables n) (variable_named scopes name) _
    (named_below n scopes name h) (λ v hv. clause_of_uses n kind v name hv)

all_listed_use : (n : ℕ) (kind : Option CopyKind) (scopes : Scopes) (ns : List names.Name) → Below n scopes
    → IfSome (each (resolved_listed kind scopes) ns) (ClausesUseVariables n)
all_listed_use n kind scopes ns h = if_each (ClauseUsesVariables n) (resolved_listed kind scopes)
    (λ name. listed_uses n kind scopes name h) ns

clause_uses : (n : ℕ) (scopes : Scopes) (clause : Clause ExpressionTree) → Below n scopes
    → IfSome (resolved_clause scopes clause) (ClausesUseVariables n)
unfolding resolved_clause
clause_uses n scopes (clauses.Value kind s v) h =
    if_then (UsesVariables n) (ClausesUseVariables n) (resolved_expression scopes v.expression) _
    (expression_uses n scopes v.expression h)
    (λ e he. All-cons (ClauseUsesVariables n) (resolved.ClauseValue kind e) [] he (All-nil (ClauseUsesVariables n)))
clause_uses n scopes (clauses.Default s argument) h = All-nil (ClauseUsesVariables n)
clause_uses n scopes (clauses.Data sharing s list) h = all_listed_use n (kind_of sharing) scopes
    (names_in list.first list.rest) h
clause_uses n scopes (clauses.Reduction s r) h = all_listed_use n (Some (copies.Reduction r.operator)) scopes
    (names_in r.first r.rest) h
clause_uses n scopes (clauses.Schedule s argument) h = All-nil (ClauseUsesVariables n)
clause_uses n scopes (clauses.Plain kind s) h = All-nil (ClauseUsesVariables n)

pub clauses_use : (n : ℕ) (scopes : Scopes) (items : List (ClauseItem ExpressionTree)) → Below n scopes
    → IfSome (resolved_clauses scopes items) (ClausesUseVariables n)
clauses_use n scopes items h = if_all_of (ClauseUsesVariables n) (resolved_item scopes)
    (λ item. clause_uses n scopes item.clause h) items

-- ---- constructs

pub construct_uses : (n : ℕ) (parallel : Option ℕ) (side : Side) (d : Directive ExpressionTree)
    (name : DirectiveName) (cs : List ResolvedClauseTree) (body : ResolvedStatementTree)
    → ClausesUseVariables n cs → StatementUsesVariables n body
    → IfSome (construct_of parallel side d name cs body) (StatementUsesVariables n)
unfolding construct_of
construct_uses n parallel side d (directives.Parallel s) cs body hc h = (hc, h)
construct_uses n parallel side d (directives.Task s) cs body hc h = (hc, h)
construct_uses n parallel side d (directives.Taskgroup s) cs body hc h = (hc, h)
construct_uses n parallel side d (directives.Single s) cs body hc h = (hc, h)
construct_uses n parallel side d (directives.Masked s) cs body hc h = (hc, h)
construct_uses n parallel side d (directives.Master s) cs body hc h = (hc, h)
construct_uses n parallel side d (directives.Critical s name) cs body hc h = (hc, h)
construct_uses n parallel side d (directives.Atomic s) cs body hc h = atomic_uses n (atomic_kind d) side d.hash cs
    body hc h
construct_uses n parallel side d _ cs body hc h = tt

pub loop_construct_uses : (n : ℕ) (d : Directive ExpressionTree) (cs : List ResolvedClauseTree)
    (l : ResolvedLoopTree) (body : ResolvedStatementTree)
    → ClausesUseVariables n cs → UsesVariables n l.from → UsesVariables n l.to → StatementUsesVariables n body
    → StatementUsesVariables n (loop_construct_of d cs l body)
loop_construct_uses n d cs l body hc from to h =
    if_either (StatementUsesVariables n) (is_parallel (traits_of d.name).region)
    (parallel_of d cs (resolved.Loop d.hash [] true l body)) (resolved.Loop d.hash cs (has_nowait d) l body)
    (hc, (All-nil (ClauseUsesVariables n), from, to, h)) (hc, from, to, h)

pub sections_construct_uses : (n : ℕ) (d : Directive ExpressionTree) (cs : List ResolvedClauseTree)
    (parts : ResolvedPartsTree)
    → ClausesUseVariables n cs → PartsUseVariables n parts → StatementUsesVariables n (sections_construct_of d cs parts)
sections_construct_uses n d cs parts hc h =
    if_either (StatementUsesVariables n) (is_parallel (traits_of d.name).region)
    (parallel_of d cs (resolved.Sections d.hash [] true parts)) (resolved.Sections d.hash cs (has_nowait d) parts)
    (hc, (All-nil (ClauseUsesVariables n), h)) (hc, h)

pub loop_uses : (n : ℕ) (scopes : Scopes) (schedule : ResolvedSchedule) (found : Loop) → Below n scopes
    → IfSome (resolved_loop scopes schedule found) (λ l. UsesVariables n l.from × UsesVariables n l.to)
unfolding resolved_loop
loop_uses n scopes schedule found h =
    let P : ResolvedLoopTree → Type 0 = λ l. UsesVariables n l.from × UsesVariables n l.to in
    let inner = bounds_scopes scopes found in
    let below = below_found n scopes found h in
    if_then (UsesVariables n) P (resolved_expression inner found.start.from) _
    (expression_uses n inner found.start.from below) (λ x hx.
    if_then (UsesVariables n) P (resolved_expression inner found.to) _ (expression_uses n inner found.to below)
    (λ y hy. (hx, hy)))

-- ---- directives that stand alone

flushed_uses : (n : ℕ) (scopes : Scopes) (list : Option NameList) → Below n scopes → IfSome (flushed scopes list)
    (All (IsVariable n))
flushed_uses n scopes None h = All-nil (IsVariable n)
flushed_uses n scopes (Some list) h = if_each (IsVariable n) (variable_named scopes)
    (λ name. named_below n scopes name h) (names_in list.first list.rest)

pub alone_uses : (n : ℕ) (scopes : Scopes) (d : Directive ExpressionTree) (name : DirectiveName) → Below n scopes
    → IfSome (resolved_alone scopes d name) (StatementUsesVariables n)
alone_uses n scopes d (directives.Barrier s) h = tt
alone_uses n scopes d (directives.Taskwait s) h = tt
alone_uses n scopes d (directives.Taskyield s) h = tt
alone_uses n scopes d (directives.Flush s list) h = if_then (All (IsVariable n)) (StatementUsesVariables n)
    (flushed scopes list) _ (flushed_uses n scopes list h) (λ vs hvs. hvs)
alone_uses n scopes d _ h = tt
