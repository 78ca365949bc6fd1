use Rattle.std.proofs.Common.{◌+◌, ap, drop, map}
use Rattle.std.proofs.lemmas.List.{drop_all}
use Rattle.om_scope_tree.specs.ResolvedView as view
use Rattle.om_lower_rules.specs.Scopes.{task_scope}
use Rattle.om_lower_emit.proofs.Scoped.{task_stands}
use Rattle.om_lower_emit.proofs.ScopeStacks.{left_one}
use Rattle.om_lower_emit.specs.Scoping.{each_end, each_next, scopes_begin}
use Rattle.om_lower_emit.proofs.clause.task_copies.Goals as goal

pub loop-clause-init : goal.loop-clause-init
loop-clause-init c = λ names d. scopes_begin names _ _ _

pub loop-clause-preserved : goal.loop-clause-preserved
loop-clause-preserved c = λ names d.
    each_next names (λ at. task_scope) _ _ (map view.clause (drop (c.loop-clause.clause-index + 1) c.args.clauses.now)) _ d _ d _ d _
    (ap (map view.clause) (left_one c.args.clauses.now c.loop-clause.clause-index c.clause-item.result
    c.loop-clause-test.true c.clause-item.is))
    (c.loop-clause.invariant names d)
    (task_stands names (view.clause c.clause-item.result) d _ _ c.in_ok-begin_scope.ensures)

pub returns : goal.returns
returns c = λ names d.
    each_end names (λ at. task_scope) _ _ d _ d _
    (ap (map view.clause) (drop_all c.loop-clause.clause-index c.args.clauses.now c.loop-clause-test.false))
    (c.loop-clause.invariant names d)
