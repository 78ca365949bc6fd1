use Rattle.std.proofs.Common.{◌+◌, ap, drop, map}
use Rattle.std.proofs.lemmas.List.{drop_all}
use Rattle.om_scope_tree.specs.ResolvedView as view
use Rattle.om_lower_rules.specs.Scopes.{team_scope}
use Rattle.om_lower_emit.specs.Each.{begin_each, end_each, next_each}
use Rattle.om_lower_emit.proofs.ScopeStacks.{left_one}
use Rattle.om_lower_emit.specs.Scoping.{each_end, each_next, scopes_begin}
use Rattle.om_lower_emit.specs.Emits.{names_at}
use Rattle.om_lower_emit.proofs.clause.reduction_starts.Goals as goal

pub loop-clause-init : goal.loop-clause-init
loop-clause-init c = (begin_each _ _ _ _ _, scopes_begin _ _ _ _)

pub loop-clause-preserved : goal.loop-clause-preserved
loop-clause-preserved c = (
  next_each _ _ _ _ _ _ _ _ _ _ c.loop-clause-test.true c.clause-item.is c.loop-clause.invariant.0
      c.in_ok-clause_reduction_start.ensures.code,
  each_next (names_at c.args.here.now) (λ at. team_scope at c.args.here.now.at.line) _ _
      (map view.clause (drop (c.loop-clause.clause-index + 1) c.args.clauses.now)) _ _ _ _ _ _ _
      (ap (map view.clause) (left_one c.args.clauses.now c.loop-clause.clause-index c.clause-item.result
      c.loop-clause-test.true c.clause-item.is))
      c.loop-clause.invariant.1 c.in_ok-clause_reduction_start.ensures.scopes,
)

pub returns-clause-code : goal.returns-clause-code
returns-clause-code c = end_each _ _ _ _ _ _ _ _ (drop_all c.loop-clause.clause-index c.args.clauses.now
    c.loop-clause-test.false) c.loop-clause.invariant.0

pub returns-clause-scopes : goal.returns-clause-scopes
returns-clause-scopes c =
    each_end (names_at c.args.here.now) (λ at. team_scope at c.args.here.now.at.line) _ _ _ _ _ _
    (ap (map view.clause) (drop_all c.loop-clause.clause-index c.args.clauses.now c.loop-clause-test.false))
    c.loop-clause.invariant.1
