use Rattle.om_lower_emit.specs.Writing.{goes_end}
use Rattle.om_scope_tree.specs.ResolvedView as view
use Rattle.om_lower_rules.specs.Expressions.{effect}
use Rattle.om_lower_rules.specs.Rows.{end}
use Rattle.om_lower_emit.specs.Scoping.{stand_plain}
use Rattle.om_lower_emit.specs.Emits.{names_at}
use Rattle.om_lower_emit.proofs.declaration.start.Goals as goal

pub returns-in-Nothing-clause-scopes : goal.returns-in-Nothing-clause-scopes
returns-in-Nothing-clause-scopes c = rw c.in-Nothing.is (stand_plain (names_at c.args.here.now) (λ at. end) _ _ _
    (goes_end 0 _).writes)

pub returns-in_ok-effect-in-Expression-clause-scopes : goal.returns-in_ok-effect-in-Expression-clause-scopes
returns-in_ok-effect-in-Expression-clause-scopes c = rw c.in-Expression.is (stand_plain (names_at c.args.here.now)
    (λ at. effect at c.args.here.now.at.line (view.expression c.in-Expression.expression)) _ _ _
    c.in_ok-effect-in-Expression.ensures.writes)
