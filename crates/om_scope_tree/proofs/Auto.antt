-- What the tactic of `src/lib.rt` may open and cite at a goal that has no answer.
-- To open `definitions` is to open all that its line `unfolding` names.
use Rattle.om_scope_tree.specs.Captures.{expression_uses, values_uses, statement_uses, statements_uses, parts_uses}
use Rattle.om_scope_tree.proofs.FoundBehind.{found_behind}

unfoldable pub definitions : Unit {0}
unfolding expression_uses values_uses statement_uses statements_uses parts_uses
definitions = tt

pub ruleset lemmas = (found_behind)
