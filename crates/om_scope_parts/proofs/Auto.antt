-- What the tactic of `src/lib.rt` may open at a goal that has no answer.
-- To open `definitions` is to open all that its line `unfolding` names.
use Rattle.om_scope_rules.specs.DirectiveRules.{clause_breaches, after_clause}
use Rattle.om_scope_rules.specs.ExpressionRules.{leading_breaches, is_target, expression_breaches, arguments_breaches}
use Rattle.om_scope_rules.specs.ExpressionRules.{printed_breaches, target_breaches}
use Rattle.om_scope_rules.specs.Resolution.{resolved_expression, resolved_target}
use Rattle.om_scope_rules.specs.StatementResolution.{resolved_declarator, resolved_clause, resolved_loop}
use Rattle.om_scope_rules.specs.StatementRules.{local_breaches}

unfoldable pub definitions : Unit {0}
unfolding
    clause_breaches after_clause
    leading_breaches is_target expression_breaches arguments_breaches printed_breaches target_breaches
    resolved_expression resolved_target
    resolved_declarator resolved_clause resolved_loop
    local_breaches
definitions = tt
