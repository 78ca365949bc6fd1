-- What the tactic of `src/lib.rt` may open and cite at a goal that has no answer.
-- To open `definitions` is to open all that its line `unfolding` names.
use Rattle.om_parser.specs.ConstructReading.{misplaced, unknown_line, stand_alone_at, section_of, atomic_of}
use Rattle.om_parser.specs.FunctionReading.{parameter_at, further_parameter_at, listed_at, parameters_at, head_after}
use Rattle.om_parser.specs.FunctionReading.{named_parameter, named_parameters, named_head}
use Rattle.om_parser.specs.StatementReading.{condition_at, optional_before, for_start_at, for_head_after, opening_of}
use Rattle.om_parser.specs.StatementReading.{return_after, jump_after, expression_statement_at, do_end, simple_of}
use Rattle.om_parser.specs.StatementReading.{no_room}
use Rattle.om_parser.specs.UnitReading.{function_after, prototype_after, void_after, int_after, item_at, take_end}
use Rattle.om_parser.specs.UnitReading.{unit_at}
use Rattle.om_parser_parts.specs.Reading.{take, take_name, name_at}
use Rattle.om_parser.proofs.AtomicKinds.{atomic_viewed}

unfoldable pub definitions : Unit {0}
unfolding
    misplaced unknown_line stand_alone_at section_of atomic_of
    parameter_at further_parameter_at listed_at parameters_at head_after named_parameter named_parameters named_head
    condition_at optional_before for_start_at for_head_after opening_of return_after jump_after expression_statement_at
    do_end simple_of no_room
    function_after prototype_after void_after int_after item_at take_end unit_at
    take take_name name_at
definitions = tt

pub ruleset lemmas = (atomic_viewed)
