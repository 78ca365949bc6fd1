use Rattle.om_scope_tree.specs.ResolvedView as view
use Rattle.om_lower_rules.specs.Statements.{declarator}
use Rattle.om_lower_emit.specs.Scoping.{stand_opens}
use Rattle.om_lower_emit.specs.Emits.{names_at}
use Rattle.om_lower_emit.proofs.declaration.declarator.Goals as goal

pub returns-clause-scopes : goal.returns-clause-scopes
returns-clause-scopes c =
    stand_opens (names_at c.args.here.now) _ _ _
    (λ at. declarator at c.args.here.now.at.line (view.declarator c.args.declared.now)) _ _ _ _ c.place-from.ensures
    c.in_ok-begin.ensures c.in_ok-initialize.ensures.writes
