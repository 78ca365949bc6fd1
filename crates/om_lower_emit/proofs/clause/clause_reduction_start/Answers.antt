use Rattle.std.proofs.Common.{ap, ◌∙◌}
use Rattle.om_scope_tree.specs.ResolvedView as view
use Rattle.om_lower_emit.proofs.Scoped.{team_stands}
use Rattle.om_lower_emit.specs.Scoped.{team_from}
use Rattle.om_lower_emit.specs.Emits.{names_at}
use Rattle.om_lower_emit.proofs.clause.clause_reduction_start.Goals as goal

pub returns-clause-scopes : goal.returns-clause-scopes
returns-clause-scopes c =
    team_stands (names_at c.args.here.now) c.args.here.now.at.line (view.clause c.args.clause.now) _ _ _ _ _
    (c.team_from-from.ensures ∙ ap (λ p. team_from p (view.clause c.args.clause.now)) c.place.ensures)
    c.in_ok-begin_scope.ensures c.in_ok-begin_reduction.ensures.writes
