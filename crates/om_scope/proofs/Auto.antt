-- What the tactic of `src/lib.rt` may open at a goal that has no answer.
-- To open `definitions` is to open all that its line `unfolding` names.
use Rattle.om_parser_tree.specs.Formed.{IsStatement, IsFunction, IsItem}
use Rattle.om_parser_tree.specs.Sizes.{HasForms}
use Rattle.om_scope_rules.specs.Breaches.{breaches_of}
use Rattle.om_scope_rules.specs.StatementResolution.{construct_of, resolved_start, resolved_statement}
use Rattle.om_scope_rules.specs.StatementResolution.{resolved_statements, resolved_repeated, resolved_parts}
use Rattle.om_scope_rules.specs.StatementRules.{statement_breaches, statements_breaches, body_breaches, parts_breaches}
use Rattle.om_scope_rules.specs.UnitResolution.{resolved_function, item_functions, resolution_of}

unfoldable pub definitions : Unit {0}
unfolding
    IsStatement IsFunction IsItem
    HasForms
    breaches_of
    construct_of resolved_start resolved_statement resolved_statements resolved_repeated resolved_parts
    statement_breaches statements_breaches body_breaches parts_breaches
    resolved_function item_functions resolution_of
definitions = tt
