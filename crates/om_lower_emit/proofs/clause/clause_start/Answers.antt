use Rattle.om_scope_tree.specs.ResolvedView as view
use Rattle.om_lower_emit.proofs.Scoped.{copy_stands}
use Rattle.om_lower_emit.specs.Emits.{names_at}
use Rattle.om_lower_emit.proofs.clause.clause_start.Goals as goal

pub returns-clause-scopes : goal.returns-clause-scopes
returns-clause-scopes c =
    copy_stands (names_at c.args.here.now) c.args.here.now.at.line (view.clause c.args.clause.now) _ _ _ _ _
    c.place-from.ensures c.in_ok-begin_scope.ensures c.in_ok-begin_copy.ensures.writes
