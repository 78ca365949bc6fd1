-- What a construct puts round its statement, and what is promised of the functions that put it together.
use Rattle.std.specs.Global.{Box}
use Rattle.std.specs.Prelude.{◌≡◌, ℕ, [], Bool, List, Option, Result, Some, Vec, map}
use Rattle.std.specs.declared.alloc.Global.{Global}
use Rattle.om_lexer.specs.declared.fault.SourceFault.{SourceFault}
use Rattle.om_lexer.specs.declared.token.Span.{Span}
use Rattle.om_pragma.specs.declared.clause.Name as names
use Rattle.om_pragma.specs.declared.tree.AtomicKind.{AtomicKind}
use Rattle.om_pragma.specs.declared.tree.Directive.{Directive}
use Rattle.om_parser_tree.specs.declared.tree.Expression.{Expression}
use Rattle.om_parser_tree.specs.View.{view_directive}
use Rattle.om_scope.specs.declared.assembly.Around.{Around}
use Rattle.om_scope.specs.declared.assembly.Around.TheVariants as arounds
use Rattle.om_scope.specs.declared.assembly.Setting.{Setting}
use Rattle.om_scope_tree.specs.declared.resolved.ConstructKind.TheVariants as kinds
use Rattle.om_scope_tree.specs.declared.resolved.ResolvedClause.{ResolvedClause}
use Rattle.om_scope_tree.specs.declared.resolved.ResolvedLoop.{ResolvedLoop}
use Rattle.om_scope_tree.specs.declared.resolved.ResolvedPart.{ResolvedPart}
use Rattle.om_scope_tree.specs.declared.resolved.ResolvedStatement.{ResolvedStatement}
use Rattle.om_scope_tree.specs.declared.resolved.Side.{Side}
use Rattle.om_scope_tree.specs.ResolvedTree as resolved
use Rattle.om_scope_tree.specs.ResolvedTree.{ResolvedClauseTree, ResolvedStatementTree}
use Rattle.om_scope_tree.specs.ResolvedView as view
use Rattle.om_scope_rules.specs.Resolves.{Resolves}
use Rattle.om_scope_rules.specs.StatementResolution.{atomic_of, construct_of, critical_name, loop_construct_of, parallel_of}
use Rattle.om_scope_rules.specs.StatementResolution.{sections_construct_of, task_of, with_update}
use Rattle.om_scope_rules.specs.Updates.{update_of}
use Rattle.om_scope.specs.Resolving.{view_body, view_clauses, view_parts}
use Rattle.om_scope_parts.specs.Bounds.{view_repeated}

-- a statement with what a construct puts round it; an update takes the place of one that is an update
abbrev pub with_around : Around → Span → List ResolvedClauseTree → ResolvedStatementTree
    → Option ResolvedStatementTree
with_around (arounds.Region kind captures) at cs body = Some (resolved.Region at kind cs captures body)
with_around (arounds.Construct kind) at cs body = Some (resolved.Construct at kind cs body)
with_around (arounds.Update side) at cs body = with_update at (update_of side body)

-- the construct of a directive, in its setting, with these clauses and round this statement, if it may have it
abbrev pub constructed : Setting → Directive Expression → List ResolvedClauseTree → ResolvedStatementTree
    → Option ResolvedStatementTree
constructed setting d cs body = construct_of setting.parallel setting.side (view_directive d) (view_directive d).name cs
    body

-- the same, with these resolved clauses and round this resolved statement
abbrev pub construct_round : Setting → Directive Expression → List ResolvedClause → ResolvedStatement
    → Option ResolvedStatementTree
construct_round setting d clauses body = constructed setting d (map view.clause clauses) (view.statement body)

-- what a `critical` of this name puts round a statement
abbrev pub critical_around : Option (Span × names.Name × Span) → Around
critical_around name = arounds.Construct (kinds.Critical (critical_name name))

-- ---- what is promised of what is put round a statement

-- it makes a `task` in this `parallel`
abbrev pub MakesTask : Option ℕ → Directive Expression → List ResolvedClause → ResolvedStatement → Around → Type 0
MakesTask parallel d clauses body around =
    let cs = map view.clause clauses in
    let tree = view.statement body in
    with_around around d.hash cs tree ≡ Some (task_of parallel (view_directive d) cs tree)

-- it makes a `parallel`
abbrev pub MakesParallel : Directive Expression → List ResolvedClause → ResolvedStatement → Around → Type 0
MakesParallel d clauses body around =
    let cs = map view.clause clauses in
    let tree = view.statement body in
    with_around around d.hash cs tree ≡ Some (parallel_of (view_directive d) cs tree)

-- it makes an `atomic`, whatever the clauses and the statement are
abbrev pub MakesAtomic : AtomicKind → Side → Around → Type 0
MakesAtomic kind side around = (at : Span) (cs : List ResolvedClauseTree) (body : ResolvedStatementTree)
    → with_around around at cs body ≡ atomic_of kind side at cs body

-- it makes the construct of the directive
abbrev pub MakesConstruct : Setting → Directive Expression → List ResolvedClause → ResolvedStatement → Around → Type 0
MakesConstruct setting d clauses body around =
    with_around around d.hash (map view.clause clauses) (view.statement body) ≡ construct_round setting d clauses body

-- ---- what is promised of statements

-- the statement is this tree, which is there
abbrev pub IsTree : Option ResolvedStatementTree → ResolvedStatement → Type 0
IsTree tree found = tree ≡ Some (view.statement found)

-- the answer is this tree; nothing is refused, unless memory ran out
abbrev pub Makes : Result ResolvedStatement SourceFault → Option ResolvedStatementTree → Type 0
Makes result tree = Resolves view.statement result [] tree

-- it is a `parallel` with these clauses round that statement
abbrev pub IsParallel : Directive Expression → Vec ResolvedClause Global → ResolvedStatement → ResolvedStatement
    → Type 0
IsParallel d clauses inner found =
    view.statement found ≡ parallel_of (view_directive d) (view_clauses clauses) (view.statement inner)

-- it is the construct of a directive that is for a loop
abbrev pub IsLoopConstruct : Directive Expression → Vec ResolvedClause Global → Box ResolvedLoop
    → Box ResolvedStatement → ResolvedStatement → Type 0
IsLoopConstruct d clauses repeated body found =
    view.statement found
    ≡ loop_construct_of (view_directive d) (view_clauses clauses) (view_repeated repeated) (view_body body)

-- it is a loop whose iterations threads share
abbrev pub IsLoop : Span → Vec ResolvedClause Global → (nowait : Bool) → Box ResolvedLoop → Box ResolvedStatement
    → ResolvedStatement → Type 0
IsLoop at clauses nowait repeated body found =
    view.statement found ≡ resolved.Loop at (view_clauses clauses) nowait (view_repeated repeated) (view_body body)

-- it is the construct of a directive that is for parts
abbrev pub IsSectionsConstruct : Directive Expression → Vec ResolvedClause Global → Vec ResolvedPart Global
    → ResolvedStatement → Type 0
IsSectionsConstruct d clauses parts found =
    view.statement found ≡ sections_construct_of (view_directive d) (view_clauses clauses) (view_parts parts)

-- it has parts that threads share
abbrev pub IsSections : Span → Vec ResolvedClause Global → (nowait : Bool) → Vec ResolvedPart Global
    → ResolvedStatement → Type 0
IsSections at clauses nowait parts found =
    view.statement found ≡ resolved.Sections at (view_clauses clauses) nowait (view_parts parts)
