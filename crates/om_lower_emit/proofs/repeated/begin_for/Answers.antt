use Rattle.std.proofs.Common.{option_map}
use Rattle.om_scope_tree.specs.ResolvedView as view
use Rattle.om_lower_emit.proofs.Loops.{begins_turn}
use Rattle.om_lower_emit.proofs.LoopScopes.{for_begins}
use Rattle.om_lower_emit.specs.Emits.{names_at}
use Rattle.om_lower_emit.proofs.repeated.begin_for.Goals as goal

pub returns-clause-code : goal.returns-clause-code
returns-clause-code c = begins_turn _ _ _ _ _ _ _ _ c.in_ok-labels.ensures c.in_ok-start.ensures.code c.define.ensures
    c.in_ok-perhaps_test.ensures

pub returns-clause-scopes : goal.returns-clause-scopes
returns-clause-scopes c =
    for_begins (names_at c.args.here.now) c.args.here.now.at.line (view.start c.args.begin.now)
    (option_map view.expression c.args.condition.now) _ _ _ _ _ _ _ _
    c.in_ok-labels.ensures c.in_ok-start.ensures.scopes c.define.ensures c.in_ok-perhaps_test.ensures
