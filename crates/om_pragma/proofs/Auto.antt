-- What the tactic of `src/lib.rt` may open and cite at a goal that has no answer.
-- To open `definitions` is to open all that its line `unfolding` names.
use Rattle.om_pragma.specs.Reading.{take_kind, take_word, take_name, take_chunk, take_end, mark_at, name_at, further_at}
use Rattle.om_pragma.specs.Reading.{names_at, list_after, list_at, value_after, default_after, data_after}
use Rattle.om_pragma.specs.Reading.{reduction_after, chunk_at, schedule_after, clause_after, clause_at, comma_at}
use Rattle.om_pragma.specs.Reading.{item_at, critical_after, critical_at, flush_at, parallel_at, name_after}
use Rattle.om_pragma.specs.Reading.{directive_name_at, opening_at, directive_at, in_parentheses, expression_at}
use Rattle.om_pragma.specs.Table.{same_clause, may_stand}
use Rattle.om_pragma.specs.Words.{same_mark, same_keyword}
use Rattle.om_pragma.proofs.SameKinds.{excluded, none_excluded}

unfoldable pub definitions : Unit {0}
unfolding
    take_kind take_word take_name take_chunk take_end mark_at name_at further_at names_at list_after list_at value_after
    default_after data_after reduction_after chunk_at schedule_after clause_after clause_at comma_at item_at
    critical_after critical_at flush_at parallel_at name_after directive_name_at opening_at directive_at in_parentheses
    expression_at
    same_clause may_stand
    same_mark same_keyword
definitions = tt

pub ruleset lemmas = (excluded, none_excluded)
