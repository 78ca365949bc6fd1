-- What the tactic of `src/lib.rt` may open and cite at a goal that has no answer.
-- To open `definitions` is to open all that its line `unfolding` names.
use Rattle.om_parser_tree.specs.AtomicForms.{same_expression, contains, is_operation_on, is_updated, is_update, is_read}
use Rattle.om_parser_tree.specs.AtomicForms.{is_write, has_atomic_form}
use Rattle.om_parser_tree.specs.CallViews.{view_call}

unfoldable pub definitions : Unit {0}
unfolding same_expression contains is_operation_on is_updated is_update is_read is_write has_atomic_form
definitions = tt

pub ruleset lemmas = (view_call)
